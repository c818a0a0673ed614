use Rattle.std.proofs.Common.{◌≡◌, ℕ, ◌+◌, ◌*◌, ◌%◌, ◌/◌, ap, ◌∙◌}
use Rattle.std.proofs.Math.Nat.{mod-add-mod, mul_comm}
use Rattle.dpe_tape.specs.Draws.{next_number}
use Rattle.dpe_tape.proofs.draws.Draws.draw.Goals as goal

wrapped : (n : ℕ) → (n * 6364136223846793005 % 18446744073709551616 + 1442695040888963407) % 18446744073709551616 ≡ next_number n
unfolding next_number
wrapped n =
    mod-add-mod (n * 6364136223846793005) 18446744073709551616 1442695040888963407
    ∙ ap (λ (k : ℕ). (k + 1442695040888963407) % 18446744073709551616) (mul_comm n 6364136223846793005)

pub returns-clause-number : goal.returns-clause-number
returns-clause-number c = wrapped c.args.self.now.number

pub returns-clause-drawn : goal.returns-clause-drawn
returns-clause-drawn c = ap (λ (k : ℕ). k / 4294967296) (wrapped c.args.self.now.number)
