use Rattle.std.proofs.Common.{◌≡◌, length}
use Rattle.dpe_tree.specs.Arena.{AreUnused}
use Rattle.dpe_tree.proofs.fresh.unused_states.Given as goal

abbrev pub invariant-loop-place : goal.invariant-loop-place
invariant-loop-place l = record {
  size : length l.states.items ≡ l._place;
  unused : AreUnused l.states.items;
}
