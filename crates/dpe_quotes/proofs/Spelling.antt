-- Lists of three words.
use Rattle.std.proofs.Common.{◌≡◌, ℕ, List, [], ◌∷◌, length, get_or, refl, arith}
use Rattle.std.specs.Borrow.{Bor}
use Rattle.dpe_quotes.specs.Words.{texts}

pub three_words : (words : List (Bor (List ℕ))) (d : Bor (List ℕ)) → length words ≡ 3
    → (get_or words 0 d).now ∷ (get_or words 1 d).now ∷ (get_or words 2 d).now ∷ [] ≡ texts words
three_words [] d e = absurd (omega arith)
three_words (a ∷ []) d e = absurd (omega arith)
three_words (a ∷ b ∷ []) d e = absurd (omega arith)
three_words (a ∷ b ∷ c ∷ []) d e = refl
three_words (a ∷ b ∷ c ∷ f ∷ words) d e = absurd (omega arith)
