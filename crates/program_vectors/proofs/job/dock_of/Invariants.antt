use Rattle.std.specs.Prelude.{All}
use Rattle.dpe_io.specs.Memory.{IsFaultless}
use Rattle.program_vectors.proofs.job.dock_of.Given as goal

-- no link was used so far
abbrev pub invariant-loop-gives : goal.invariant-loop-gives
invariant-loop-gives l = All IsFaultless l.links.items
