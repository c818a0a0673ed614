-- Lists: filters, searches and an element taken out.
use Rattle.std.proofs.Common.{◌≡◌, ◌≢◌, ℕ, zero, suc, ◌<◌, List, [], ◌∷◌, ◌++◌, refl, ap, sym, ◌∙◌, map, filter, find, take, drop, get_or, slice_get, length, remove, Bool, true, false, cond, Some, None, All, subst, arith}
use Rattle.std.specs.Option.{option_map}
use Rattle.std.proofs.Math.ListN.{get_or-map}
use Rattle.std.proofs.lemmas.List.{length-map}
use Rattle.std.proofs.lemmas.List.Elements.{All-append, All-take, All-drop}
use Rattle.std.proofs.lemmas.Option.{get_or_from_slice_get, slice_get_within}

-- one element fails, and all others pass
pub filter_but : {X : Type 0} (p : X → Bool) (xs : List X) (at : ℕ) → at < length xs → ((d : X) → p (get_or xs at d) ≡ false)
    → ((k : ℕ) (d : X) → k < length xs → k ≢ at → p (get_or xs k d) ≡ true) → filter p xs ≡ remove xs at
filter_but p [] at lt fails passes = absurd (omega arith)
filter_but p (x ∷ xs) zero lt fails passes =
    ap (λ b. cond b (x ∷ filter p xs) (filter p xs)) (fails x) ∙ filter_all p xs (λ k d l. passes (suc k) d (omega arith) (λ e. absurd (omega arith)))
  where
    filter_all : {X : Type 0} (p : X → Bool) (xs : List X) → ((k : ℕ) (d : X) → k < length xs → p (get_or xs k d) ≡ true) → filter p xs ≡ xs
    filter_all p [] passes = refl
    filter_all p (x ∷ xs) passes =
        ap (λ b. cond b (x ∷ filter p xs) (filter p xs)) (passes 0 x (omega arith)) ∙ ap (λ l. x ∷ l) (filter_all p xs (λ k d l. passes (suc k) d (omega arith)))
filter_but p (x ∷ xs) (suc at) lt fails passes =
    ap (λ b. cond b (x ∷ filter p xs) (filter p xs)) (passes 0 x (omega arith) (λ e. absurd (omega arith)))
    ∙ ap (λ l. x ∷ l) (filter_but p xs at (omega arith) fails (λ k d l ne. passes (suc k) d (omega arith) (λ e. ne (omega arith))))

-- the first that passes stands at this place
pub find_first : {X : Type 0} (p : X → Bool) (xs : List X) (at : ℕ) (x : X) → slice_get xs at ≡ Some x → p x ≡ true
    → ((k : ℕ) (d : X) → k < at → p (get_or xs k d) ≡ false) → find p xs ≡ Some x
find_first p [] at x is passes fails = absurd cc
find_first p (y ∷ ys) zero x is passes fails = let same : y ≡ x = cc in ap (λ b. cond b (Some y) (find p ys)) (ap p same ∙ passes) ∙ is
find_first p (y ∷ ys) (suc at) x is passes fails =
    ap (λ b. cond b (Some y) (find p ys)) (fails 0 y (omega arith)) ∙ find_first p ys at x is passes (λ k d l. fails (suc k) d (omega arith))

pub find_none : {X : Type 0} (p : X → Bool) (xs : List X) → ((at : ℕ) (x : X) → slice_get xs at ≡ Some x → p x ≡ false) → find p xs ≡ None
find_none p [] fails = refl
find_none p (x ∷ xs) fails = ap (λ b. cond b (Some x) (find p xs)) (fails 0 x refl) ∙ find_none p xs (λ at y is. fails (suc at) y is)

pub filter-map : {X Y : Type 0} (f : X → Y) (p : Y → Bool) (xs : List X) → filter p (map f xs) ≡ map f (filter (λ x. p (f x)) xs)
filter-map f p [] = refl
filter-map f p (x ∷ xs) = by_test (p (f x)) (filter-map f p xs)
  where
    by_test : (b : Bool) → filter p (map f xs) ≡ map f (filter (λ x. p (f x)) xs)
        → cond b (f x ∷ filter p (map f xs)) (filter p (map f xs)) ≡ map f (cond b (x ∷ filter (λ x. p (f x)) xs) (filter (λ x. p (f x)) xs))
    by_test true e = ap (λ l. f x ∷ l) e
    by_test false e = e

pub map-remove : {X Y : Type 0} (f : X → Y) (xs : List X) (at : ℕ) → map f (remove xs at) ≡ remove (map f xs) at
map-remove f [] zero = refl
map-remove f [] (suc at) = refl
map-remove f (x ∷ xs) zero = refl
map-remove f (x ∷ xs) (suc at) = ap (λ l. f x ∷ l) (map-remove f xs at)

-- The rows before a place, and then those of the others that pass: at the place below, where its row stays and where
-- it goes.
pub filtered_stays : {X : Type 0} (p : X → Bool) (xs : List X) (at : ℕ) (x : X) → slice_get xs at ≡ Some x → p x ≡ true
    → take (suc at) xs ++ filter p (drop (suc at) xs) ≡ take at xs ++ filter p (drop at xs)
filtered_stays p [] at x is h = absurd cc
filtered_stays p (y ∷ ys) zero x is h =
    let same : y ≡ x = cc in sym (ap (λ b. cond b (y ∷ filter p ys) (filter p ys)) (ap p same ∙ h))
filtered_stays p (y ∷ ys) (suc at) x is h = ap (λ l. y ∷ l) (filtered_stays p ys at x is h)

pub filtered_goes : {X : Type 0} (p : X → Bool) (xs : List X) (at : ℕ) (x : X) → slice_get xs at ≡ Some x → p x ≡ false
    → remove (take (suc at) xs ++ filter p (drop (suc at) xs)) at ≡ take at xs ++ filter p (drop at xs)
filtered_goes p [] at x is h = absurd cc
filtered_goes p (y ∷ ys) zero x is h =
    let same : y ≡ x = cc in sym (ap (λ b. cond b (y ∷ filter p ys) (filter p ys)) (ap p same ∙ h))
filtered_goes p (y ∷ ys) (suc at) x is h = ap (λ l. y ∷ l) (filtered_goes p ys at x is h)

-- the row at the place is still there
pub filtered_get : {X : Type 0} (p : X → Bool) (xs : List X) (at : ℕ) (x : X) → slice_get xs at ≡ Some x
    → slice_get (take (suc at) xs ++ filter p (drop (suc at) xs)) at ≡ Some x
filtered_get p [] at x is = absurd cc
filtered_get p (y ∷ ys) zero x is = is
filtered_get p (y ∷ ys) (suc at) x is = filtered_get p ys at x is

pub find-map : {X Y : Type 0} (f : X → Y) (p : Y → Bool) (xs : List X) → find p (map f xs) ≡ option_map f (find (λ x. p (f x)) xs)
find-map f p [] = refl
find-map f p (x ∷ xs) = by_test (p (f x)) (find-map f p xs)
  where
    by_test : (b : Bool) → find p (map f xs) ≡ option_map f (find (λ x. p (f x)) xs)
        → cond b (Some (f x)) (find p (map f xs)) ≡ option_map f (cond b (Some x) (find (λ x. p (f x)) xs))
    by_test true e = refl
    by_test false e = e

pub All-slice_get : {X : Type 0} (P : X → Type 0) (xs : List X) (at : ℕ) (x : X) → All P xs → slice_get xs at ≡ Some x → P x
All-slice_get P xs at x all is = subst P (get_or_from_slice_get xs at x x is) (all at x (slice_get_within xs at x is))

pub All-remove : {X : Type 0} (P : X → Type 0) (xs : List X) (at : ℕ) → All P xs → All P (remove xs at)
All-remove P xs at all = All-append P (take at xs) (drop (suc at) xs) (All-take P at xs all) (All-drop P (suc at) xs all)

pub All-from_map : {X Y : Type 0} (P : Y → Type 0) (f : X → Y) (xs : List X) → All P (map f xs) → All (λ x. P (f x)) xs
All-from_map P f xs all k d lt = subst P (get_or-map f xs k d) (all k (f d) (let l = length-map xs f in omega arith))
