use Rattle.std.proofs.Common.{length, sym, eqb-true}
use Rattle.dpe_journal.proofs.Parts.{judged_nothing}
use Rattle.dpe_journal.proofs.records.judge_record_or_end.Goals as goal

pub returns-then-is_empty : goal.returns-then-is_empty
returns-then-is_empty c = judged_nothing c.args.records c.args.bytes.now (eqb-true (length c.args.bytes.now) 0 (sym c.if-is_empty.ensures))
