-- Lists of one word.
use Rattle.std.proofs.Common.{◌≡◌, ℕ, List, [], ◌∷◌, length, get_or, refl, arith}
use Rattle.std.specs.Borrow.{Bor}
use Rattle.dpe_vaults.specs.Words.{texts}

pub one_word : (words : List (Bor (List ℕ))) (d : Bor (List ℕ)) → length words ≡ 1 → (get_or words 0 d).now ∷ [] ≡ texts words
one_word [] d e = absurd (omega arith)
one_word (u ∷ []) d e = refl
one_word (u ∷ v ∷ words) d e = absurd (omega arith)
