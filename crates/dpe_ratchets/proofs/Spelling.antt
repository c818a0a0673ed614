-- Lists of six words.
use Rattle.std.proofs.Common.{◌≡◌, ℕ, List, [], ◌∷◌, length, get_or, refl, arith}
use Rattle.std.specs.Borrow.{Bor}
use Rattle.dpe_ratchets.specs.Words.{texts}

pub six_words : (words : List (Bor (List ℕ))) (d : Bor (List ℕ)) → length words ≡ 6
    → (get_or words 0 d).now ∷ (get_or words 1 d).now ∷ (get_or words 2 d).now ∷ (get_or words 3 d).now ∷ (get_or words 4 d).now ∷ (get_or words 5 d).now ∷ [] ≡ texts words
six_words [] d e = absurd (omega arith)
six_words (a ∷ []) d e = absurd (omega arith)
six_words (a ∷ b ∷ []) d e = absurd (omega arith)
six_words (a ∷ b ∷ c ∷ []) d e = absurd (omega arith)
six_words (a ∷ b ∷ c ∷ f ∷ []) d e = absurd (omega arith)
six_words (a ∷ b ∷ c ∷ f ∷ g ∷ []) d e = absurd (omega arith)
six_words (a ∷ b ∷ c ∷ f ∷ g ∷ h ∷ []) d e = refl
six_words (a ∷ b ∷ c ∷ f ∷ g ∷ h ∷ i ∷ words) d e = absurd (omega arith)
