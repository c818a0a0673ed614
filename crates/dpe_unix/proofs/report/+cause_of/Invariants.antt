use Rattle.std.proofs.Common.{length}
use Rattle.dpe_unix.proofs.report.+cause_of.Given as goal

abbrev pub decreases-cause_of : goal.decreases-cause_of
decreases-cause_of l = length l.causes.now
