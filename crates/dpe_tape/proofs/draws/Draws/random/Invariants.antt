use Rattle.std.proofs.Common.{◌≡◌, ◌*◌, length, take}
use Rattle.dpe_tape.specs.Draws.{number_after, first_draws}
use Rattle.dpe_tape.proofs.draws.Draws.random.Given as goal

abbrev pub invariant-loop-place : goal.invariant-loop-place
invariant-loop-place l =
    (l.self.number ≡ number_after l.place l.initial.self.number)
    × (take (4 * l.place) l.bytes ≡ first_draws l.place l.initial.self.number)
    × (length l.bytes ≡ 32)
