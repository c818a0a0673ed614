-- One call more.
use Rattle.std.proofs.Common.{◌≡◌, ℕ, ◌+◌, ◌<◌, List, [], ◌∷◌, ◌++◌, length, take, set, arith, subst, sym}
use Rattle.std.proofs.lemmas.List.{take_more_set}
use Rattle.dpe_desk.specs.declared.sequential.Entry.{Entry}
use Rattle.desk_bench.specs.Sums.{sum_of, IsRunningSum}

pub sum_of_more : (es : List (Entry ℕ ℕ)) (e : Entry ℕ ℕ) → sum_of (es ++ e ∷ []) ≡ sum_of es + e.call
sum_of_more [] e = omega arith
sum_of_more (x ∷ xs) e = let h = sum_of_more xs e in omega arith

pub sums_more : (before : ℕ) (es : List (Entry ℕ ℕ)) (e : Entry ℕ ℕ) → IsRunningSum before es → e.reply ≡ before + sum_of es + e.call → IsRunningSum before (es ++ e ∷ [])
sums_more before [] e h r = (omega arith, tt)
sums_more before (x ∷ xs) e h r = (h.0, sums_more (before + x.call) xs e h.1 (omega arith))

-- what stands in the rows after one call more
pub added : (items : List (Entry ℕ ℕ)) (used sum : ℕ) (e : Entry ℕ ℕ) → used < length items → sum ≡ sum_of (take used items) → IsRunningSum 0 (take used items) → e.reply ≡ sum + e.call
    → (sum + e.call ≡ sum_of (take (used + 1) (set items used e))) × IsRunningSum 0 (take (used + 1) (set items used e))
added items used sum e below same legal reply =
    let P : List (Entry ℕ ℕ) → Type 0 = λ es. (sum + e.call ≡ sum_of es) × IsRunningSum 0 es in
    let total = sum_of_more (take used items) e in
    subst P (sym (take_more_set items used e below)) (omega arith, sums_more 0 (take used items) e legal (omega arith))
