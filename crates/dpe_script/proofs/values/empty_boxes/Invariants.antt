use Rattle.std.proofs.Common.{◌≡◌, [], replicate}
use Rattle.dpe_script.proofs.values.empty_boxes.Given as goal

abbrev pub invariant-loop-at : goal.invariant-loop-at
invariant-loop-at l = l.boxes.items ≡ replicate l._at []
