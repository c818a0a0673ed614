use Rattle.std.proofs.Common.{◌≡◌, true, vec_capacity}
use Rattle.dpe_tree.specs.Arena.{link_in, state_in, HaveUseBut, IsBase, IsPruned}
use Rattle.dpe_tree.proofs.trim.trim.Given as goal

abbrev pub invariant-loop-states : goal.invariant-loop-states
invariant-loop-states l = record {
  base : IsBase l.links l.states l.free.items;
  place : (state_in l.states l.at).used ≡ true;
  uses : HaveUseBut l.states l.at;
  pruned : IsPruned (link_in l.links) (state_in l.fn.states) (state_in l.states);
  room : vec_capacity l.free ≡ vec_capacity l.fn.free;
}

abbrev pub decreases-loop-states : goal.decreases-loop-states
decreases-loop-states l = (link_in l.links l.at).depth
