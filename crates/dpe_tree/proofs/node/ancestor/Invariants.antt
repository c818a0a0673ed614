use Rattle.std.proofs.Common.{◌≡◌}
use Rattle.dpe_tree.specs.Arena.{link_in, up}
use Rattle.dpe_tree.proofs.node.ancestor.Given as goal

abbrev pub invariant-loop-step : goal.invariant-loop-step
invariant-loop-step l = l.at ≡ up (link_in l.links) l._step l.place
