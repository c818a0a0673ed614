-- The lists of a vault that threads share.
use Rattle.std.specs.Prelude.{List, [], ◌∷◌, ◌++◌}
use Rattle.dpe_vaults.specs.Calls.{Call}
use Rattle.dpe_vaults.specs.Kept.{Called, LegalAfter}

-- a front of a legal list is legal
pub legal_front : (before : List Call) (xs ys : List Called) → LegalAfter before (xs ++ ys) → LegalAfter before xs
legal_front before [] ys legal = tt
legal_front before (x ∷ xs) ys legal = (legal.0, legal_front (before ++ x.call ∷ []) xs ys legal.1)
