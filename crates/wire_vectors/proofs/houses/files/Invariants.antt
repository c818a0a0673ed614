use Rattle.std.specs.Prelude.{All, ◌≡◌}
use Rattle.wire_vectors.proofs.houses.files.Given as goal

abbrev pub invariant-loop-word : goal.invariant-loop-word
invariant-loop-word l = All (λ file. file.faults ≡ 0) l.files.items
