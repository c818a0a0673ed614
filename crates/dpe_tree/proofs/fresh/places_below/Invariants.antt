use Rattle.std.proofs.Common.{◌≤◌, vec_capacity}
use Rattle.dpe_tree.specs.Arena.{AreBelow}
use Rattle.dpe_tree.proofs.fresh.places_below.Given as goal

abbrev pub invariant-loop-place : goal.invariant-loop-place
invariant-loop-place l = record {
  below : AreBelow l.places.items l.place;
  room : l.many ≤ vec_capacity l.places;
}
