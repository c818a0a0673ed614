use Rattle.std.proofs.Common.{refl, subst, sym, arith}
use Rattle.dpe_journal.specs.Fields.{Judged}
use Rattle.dpe_journal.specs.Journal.{header_bytes}
use Rattle.dpe_journal.specs.Stages.{at_front, IsPart}
use Rattle.dpe_journal.specs.declared.fields.Front.{Front}
use Rattle.dpe_journal.proofs.Parts.{judged_header}
use Rattle.dpe_journal.proofs.records.judge_header.Goals as goal

pub judge-requires : goal.judge-requires
judge-requires c = (header_bytes 0, (c.header_fields.ensures (header_bytes 0)).0 (0, omega arith, refl))

pub returns : goal.returns
returns c =
    subst (λ (front : Front). Judged (IsPart at_front) c.args.bytes.now front) (sym c.lengthen.ensures)
    (judged_header c.header_fields.result c.args.bytes.now c.judge.result c.header_fields.ensures c.judge.ensures)
