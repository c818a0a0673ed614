use Rattle.std.proofs.Common.{◌≡◌, length}
use Rattle.dpe_tree.proofs.fresh.links.Given as goal

abbrev pub invariant-loop-place : goal.invariant-loop-place
invariant-loop-place l = length l.links.items ≡ l._place
