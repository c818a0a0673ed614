use Rattle.std.proofs.Common.{◌≡◌, ◌*◌, length, take}
use Rattle.dpe_tape.specs.Draws.{repeated}
use Rattle.dpe_tape.proofs.draws.eight_times.Given as goal

abbrev pub invariant-loop-place : goal.invariant-loop-place
invariant-loop-place l = (take (4 * l.place) l.bytes ≡ repeated l.place l.word) × (length l.bytes ≡ 32)
