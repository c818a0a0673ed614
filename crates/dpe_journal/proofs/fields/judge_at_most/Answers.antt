use Rattle.std.proofs.Common.{length, sym, eqb-true}
use Rattle.dpe_journal.proofs.Judging.{at_most_short}
use Rattle.dpe_journal.proofs.fields.judge_at_most.Goals as goal

pub returns-then-is_empty : goal.returns-then-is_empty
returns-then-is_empty c = at_most_short c.args.most c.args.bytes.now (eqb-true (length c.args.bytes.now) 0 (sym c.if-is_empty.ensures))
