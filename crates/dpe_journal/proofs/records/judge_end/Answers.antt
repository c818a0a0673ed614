use Rattle.std.proofs.Common.{refl, subst, sym}
use Rattle.dpe_journal.specs.Fields.{Judged}
use Rattle.dpe_journal.specs.Journal.{end_bytes}
use Rattle.dpe_journal.specs.Stages.{behind, IsPart}
use Rattle.dpe_journal.specs.declared.fields.Front.{Front}
use Rattle.dpe_journal.proofs.Parts.{judged_end}
use Rattle.dpe_journal.proofs.records.judge_end.Goals as goal

pub judge-requires : goal.judge-requires
judge-requires c = (end_bytes c.args.records, (c.end_fields.ensures (end_bytes c.args.records)).0 refl)

pub returns : goal.returns
returns c =
    subst (λ (front : Front). Judged (IsPart (behind c.args.records)) c.args.bytes.now front) (sym c.lengthen.ensures)
    (judged_end c.end_fields.result c.args.records c.args.bytes.now c.judge.result c.requires.some c.end_fields.ensures c.requires.no_record c.judge.ensures)
