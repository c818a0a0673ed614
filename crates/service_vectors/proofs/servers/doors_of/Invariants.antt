use Rattle.std.specs.Prelude.{All}
use Rattle.dpe_io.specs.Memory.{IsUnused}
use Rattle.service_vectors.proofs.servers.doors_of.Given as goal

abbrev pub invariant-loop-sent : goal.invariant-loop-sent
invariant-loop-sent l = All IsUnused l.doors.items
