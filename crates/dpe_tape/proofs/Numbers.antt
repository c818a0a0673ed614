-- Lists of three words.
use Rattle.std.proofs.Common.{◌≡◌, ℕ, List, [], ◌∷◌, length, get_or, refl, arith}
use Rattle.std.specs.Borrow.{Bor}
use Rattle.dpe_tape.specs.Words.{texts}

pub three_words : (words : List (Bor (List ℕ))) (d : Bor (List ℕ)) → length words ≡ 3
    → (get_or words 0 d).now ∷ (get_or words 1 d).now ∷ (get_or words 2 d).now ∷ [] ≡ texts words
three_words [] d e = absurd (omega arith)
three_words (u ∷ []) d e = absurd (omega arith)
three_words (u ∷ v ∷ []) d e = absurd (omega arith)
three_words (u ∷ v ∷ w ∷ []) d e = refl
three_words (u ∷ v ∷ w ∷ t ∷ words) d e = absurd (omega arith)
