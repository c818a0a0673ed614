-- A list from a place on: the element there, and the list behind it.
use Rattle.std.proofs.Common.{◌≡◌, ℕ, ◌+◌, ◌<◌, List, ◌∷◌, length, drop, get_or, ap, add-one, drop-cons}
use Rattle.std.specs.Borrow.{Bor}
use Rattle.dpe_grammar.specs.Values.{texts}

pub drop_step : {A : Type 0} (xs : List A) (i : ℕ) (d : A) → i < length xs → drop i xs ≡ get_or xs i d ∷ drop (i + 1) xs
drop_step xs i d h = rw (add-one, drop-cons xs i d)

pub texts_step : (words : List (Bor (List ℕ))) (i : ℕ) (d : Bor (List ℕ)) → i < length words → texts (drop i words) ≡ (get_or words i d).now ∷ texts (drop (i + 1) words)
texts_step words i d h = ap texts (drop_step words i d h)
