use Rattle.std.proofs.Common.{◌≡◌, ◌*◌, ℕ, List, length, take, sym, ap, ◌∙◌, arith}
use Rattle.std.proofs.lemmas.List.{take_all}
use Rattle.dpe_tape.specs.Draws.{repeated}
use Rattle.dpe_tape.proofs.draws.eight_times.Goals as goal

-- after eight words the 32 bytes are theirs
all_words : (bytes : List ℕ) (place word : ℕ) → place ≡ 8 → length bytes ≡ 32 → take (4 * place) bytes ≡ repeated place word → bytes ≡ repeated 8 word
all_words bytes place word all long is =
    sym (take_all (4 * place) bytes (omega (arith, all, long))) ∙ is ∙ ap (λ (n : ℕ). repeated n word) all

pub returns : goal.returns
returns c =
    let all : c.loop-place.place ≡ 8 = omega arith in
    all_words c.loop-place.bytes c.loop-place.place c.args.word all c.loop-place.invariant.1 c.loop-place.invariant.0
