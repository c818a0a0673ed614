use Rattle.std.proofs.Common.{length}
use Rattle.dpe_journal.proofs.fields.+judge.Given as goal

abbrev pub decreases-judge : goal.decreases-judge
decreases-judge l = length l.fields.now
