use Rattle.std.proofs.Common.{subst, sym}
use Rattle.dpe_journal.specs.Fields.{Judged}
use Rattle.dpe_journal.specs.Stages.{behind, IsPart}
use Rattle.dpe_journal.specs.declared.fields.Front.{Front}
use Rattle.dpe_journal.proofs.Parts.{judged_record, some_record}
use Rattle.dpe_journal.proofs.records.judge_record.Goals as goal

pub judge-requires : goal.judge-requires
judge-requires c = some_record c.record_fields.result c.record_fields.ensures

pub returns : goal.returns
returns c =
    subst (λ (front : Front). Judged (IsPart (behind c.args.records)) c.args.bytes.now front) (sym c.lengthen.ensures)
    (judged_record c.record_fields.result c.args.records c.args.bytes.now c.judge.result c.requires.some c.record_fields.ensures c.requires.tag c.requires.few c.judge.ensures)
