use Rattle.std.proofs.Common.{length, sym, eqb-true}
use Rattle.dpe_journal.proofs.Judging.{exact_short}
use Rattle.dpe_journal.proofs.fields.judge_exact.Goals as goal

pub returns-then-is_empty : goal.returns-then-is_empty
returns-then-is_empty c = exact_short c.args.byte c.args.bytes.now (eqb-true (length c.args.bytes.now) 0 (sym c.if-is_empty.ensures))
