-- Sums over the workers, and the count of refused entries, one more at a time.
use Rattle.std.proofs.Common.{◌≡◌, ℕ, ◌+◌, ◌<◌, Bool, cond, not, List, [], length, take, get_or, Some, sym, ap, ◌∙◌, arith}
use Rattle.std.specs.Prelude.{slice_get, sum_by}
use Rattle.std.proofs.lemmas.Option.{get_or_from_slice_get, slice_get_within}
use Rattle.std.proofs.lemmas.List.Sums.{sum_by_more}
use Rattle.dpe_model.specs.History.{Entry, is_accepted}
use Rattle.dpe_serve.specs.Summary.{refused_of}

abbrev one_if : Bool → ℕ
one_if b = cond b 1 0

-- the count of refused entries, with the next one
pub refused_more : (H : List Entry) (at : ℕ) (e : Entry) (b : Bool) → slice_get H at ≡ Some e → b ≡ not (is_accepted e)
    → refused_of (take (at + 1) H) ≡ refused_of (take at H) + cond b 1 0
refused_more H at e b is test =
    let here : get_or H at e ≡ e = get_or_from_slice_get H at e e is in
    sum_by_more (λ (x : Entry). one_if (not (is_accepted x))) H at e (slice_get_within H at e is)
    ∙ ap (λ (n : ℕ). refused_of (take at H) + n) (ap (λ (x : Entry). one_if (not (is_accepted x))) here ∙ ap one_if (sym test))

-- a sum over a list, with the next one
pub sum_more : {X : Type 0} (f : X → ℕ) (xs : List X) (i : ℕ) (x : X) (so_far next : ℕ) → i < length xs → x ≡ get_or xs i x
    → so_far ≡ sum_by f (take i xs) → next ≡ f x → so_far + next ≡ sum_by f (take (i + 1) xs)
sum_more f xs i x so_far next within is front same =
    let more = sum_by_more f xs i x within in
    let here : f x ≡ f (get_or xs i x) = ap f is in
    omega (arith, more, here, front, same)
