-- Lists of which each element, or each pair, has something.
use Rattle.std.proofs.Common.{◌≡◌, ◌+◌, ◌≤◌, List, [], ◌∷◌, ◌++◌, suc, refl, ap, ◌∙◌, filter, find, Bool, true, false, cond, Some, length, arith, AllPairs}
use Rattle.std.specs.List.{AllByRecursion}
use Rattle.std.proofs.lemmas.List.Elements.{All-from_recursion, recursion_from_All}
use Rattle.std.proofs.lemmas.List.Quantifiers.{all_pairs_push}

pub always_all : {X : Type 0} (P : X → Type 0) → ((x : X) → P x) → (xs : List X) → AllByRecursion P xs
always_all P f [] = tt
always_all P f (x ∷ xs) = (f x, always_all P f xs)

pub both_all : {X : Type 0} (P Q R : X → Type 0) → ((x : X) → P x → Q x → R x) → (xs : List X) → AllByRecursion P xs → AllByRecursion Q xs → AllByRecursion R xs
both_all P Q R f [] h k = tt
both_all P Q R f (x ∷ xs) h k = (f x h.0 k.0, both_all P Q R f xs h.1 k.1)

pub push_pairs : {X : Type 0} (R : X → X → Type 0) (xs : List X) (y : X) → AllPairs R xs → AllByRecursion (λ x. R x y) xs → AllPairs R (xs ++ y ∷ [])
push_pairs R xs y h k = all_pairs_push R xs y h (λ i d l. All-from_recursion (λ x. R x y) xs k i d l)

pub pairs_head : {X : Type 0} (R : X → X → Type 0) (x : X) (xs : List X) → AllPairs R (x ∷ xs) → AllByRecursion (R x) xs
pairs_head R x xs h = recursion_from_All (R x) xs (λ k d l. h 0 (suc k) d (omega arith) (omega arith))

pub pairs_tail : {X : Type 0} (R : X → X → Type 0) (x : X) (xs : List X) → AllPairs R (x ∷ xs) → AllPairs R xs
pairs_tail R x xs h = λ i j d l m. h (suc i) (suc j) d (omega arith) (omega arith)

-- a filter is no longer than its list
filter_if : {X : Type 0} (x : X) (ys xs : List X) (b : Bool) → length ys ≤ length xs → length (cond b (x ∷ ys) ys) ≤ length (x ∷ xs)
filter_if x ys xs true h = omega arith
filter_if x ys xs false h = omega arith

pub filter_shorter : {X : Type 0} (p : X → Bool) (xs : List X) → length (filter p xs) ≤ length xs
filter_shorter p [] = omega arith
filter_shorter p (x ∷ xs) = filter_if x (filter p xs) xs (p x) (filter_shorter p xs)

-- and shorter where what was found is left out
less_if : {X : Type 0} (x : X) (ys xs : List X) (b : Bool) → length ys + 1 ≤ length xs → length (cond b (x ∷ ys) ys) + 1 ≤ length (x ∷ xs)
less_if x ys xs true h = omega arith
less_if x ys xs false h = omega arith

pub found_less : {X : Type 0} (p q : X → Bool) (xs : List X) (y : X) → find q xs ≡ Some y → p y ≡ false → length (filter p xs) + 1 ≤ length xs
found_less p q [] y e h = cc
found_less p q (x ∷ xs) y e h = by_test (q x) (found_less p q xs y) e
  where
    out : (b : Bool) → p x ≡ b → b ≡ false → length (cond b (x ∷ filter p xs) (filter p xs)) + 1 ≤ length (x ∷ xs)
    out true k l = cc
    out false k l = let le = filter_shorter p xs in omega arith

    by_test : (b : Bool) → (find q xs ≡ Some y → p y ≡ false → length (filter p xs) + 1 ≤ length xs) → cond b (Some x) (find q xs) ≡ Some y → length (filter p (x ∷ xs)) + 1 ≤ length (x ∷ xs)
    by_test true rec e = let same : x ≡ y = cc in out (p x) refl (ap p same ∙ h)
    by_test false rec e = less_if x (filter p xs) xs (p x) (rec e h)
