use Rattle.dpe_core.proofs.Ending.{IsEnding}
use Rattle.dpe_core.proofs.contexts.end_below.Given as goal

abbrev pub invariant-loop-at : goal.invariant-loop-at
invariant-loop-at l = IsEnding l.fn.tree l.tree l.fn.table l.table l.above.0 l.at

abbrev pub decreases-loop-at : goal.decreases-loop-at
decreases-loop-at l = l.at
