use Rattle.std.proofs.Common.{◌≡◌, ◌*◌, ℕ, List, length, take, sym, ap, ◌∙◌, arith}
use Rattle.std.proofs.lemmas.List.{take_all}
use Rattle.dpe_tape.specs.Draws.{number_after, first_draws}
use Rattle.dpe_tape.proofs.draws.Draws.random.Goals as goal

-- after eight draws the 32 bytes are theirs
all_draws : (bytes : List ℕ) (place x : ℕ) → place ≡ 8 → length bytes ≡ 32 → take (4 * place) bytes ≡ first_draws place x → bytes ≡ first_draws 8 x
all_draws bytes place x all long is =
    sym (take_all (4 * place) bytes (omega (arith, all, long))) ∙ is ∙ ap (λ (n : ℕ). first_draws n x) all

pub returns-clause-number : goal.returns-clause-number
returns-clause-number c =
    let all : c.loop-place.place ≡ 8 = omega arith in
    c.loop-place.invariant.0 ∙ ap (λ (n : ℕ). number_after n c.args.self.now.number) all

pub returns-clause-bytes : goal.returns-clause-bytes
returns-clause-bytes c =
    let all : c.loop-place.place ≡ 8 = omega arith in
    all_draws c.loop-place.bytes c.loop-place.place c.args.self.now.number all c.loop-place.invariant.2 c.loop-place.invariant.1
