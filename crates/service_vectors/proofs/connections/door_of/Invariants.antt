use Rattle.std.specs.Prelude.{All}
use Rattle.dpe_io.specs.Memory.{IsFaultless}
use Rattle.service_vectors.proofs.connections.door_of.Given as goal

abbrev pub invariant-loop-bytes : goal.invariant-loop-bytes
invariant-loop-bytes l = All IsFaultless l.conns.items
