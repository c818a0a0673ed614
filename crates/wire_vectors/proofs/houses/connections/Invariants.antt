use Rattle.std.specs.Prelude.{All}
use Rattle.dpe_io.specs.Memory.{IsFaultless}
use Rattle.wire_vectors.proofs.houses.connections.Given as goal

abbrev pub invariant-loop-word : goal.invariant-loop-word
invariant-loop-word l = All IsFaultless l.waiting.items
