-- Lists of calls of a running sum.
use Rattle.std.specs.Prelude.{◌≡◌, ℕ, ◌+◌, List, [], ◌∷◌, ◌++◌}
use Rattle.std.specs.Prelude.{⊤}
use Rattle.dpe_desk.specs.declared.sequential.Entry.{Entry}

-- the calls that were made, and how many there may be
pub record Sums : Type 0 where
  pub entries : List (Entry ℕ ℕ)
  pub most : ℕ

-- the numbers that were added
abbrev pub sum_of : List (Entry ℕ ℕ) → ℕ
sum_of [] = 0
sum_of (e ∷ es) = e.call + sum_of es

-- each reply is the sum of all numbers up to its own, of which the first is added to this
abbrev pub IsRunningSum : ℕ → List (Entry ℕ ℕ) → Type 0
IsRunningSum before [] = ⊤
IsRunningSum before (e ∷ es) = (e.reply ≡ before + e.call) × IsRunningSum (before + e.call) es

pub sums_prefix : (before : ℕ) (xs ys : List (Entry ℕ ℕ)) → IsRunningSum before (xs ++ ys) → IsRunningSum before xs
sums_prefix before [] ys h = tt
sums_prefix before (x ∷ xs) ys h = (h.0, sums_prefix (before + x.call) xs ys h.1)
