use Rattle.dpe_tree.specs.Tree.{IsUsed}
use Rattle.state_vectors.proofs.grown.leads_to.Given as goal

abbrev pub invariant-loop-step : goal.invariant-loop-step
invariant-loop-step l = IsUsed l.tree l.at.0
