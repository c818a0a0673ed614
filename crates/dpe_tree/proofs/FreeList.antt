-- The list of the free places, where one is taken or given back.
use Rattle.std.proofs.Common.{◌≡◌, ◌≢◌, ℕ, zero, suc, ◌<◌, ◌≤◌, ◌⊎◌, ◌||◌, not, Bool, true, false, List, [], ◌∷◌, ◌++◌, length, nat_eq, refl, ap, sym, ◌∙◌, inl, inr, arith, length-append}
use Rattle.std.specs.List.{list_any, IsDistinct, AllByRecursion}
use Rattle.std.specs.Cmp.{nat_eq_equiv}
use Rattle.std.proofs.lemmas.Bool.{eqb-true, eq-eqb, eqb-false, ne_eqb, or_left, or_right}
use Rattle.std.proofs.lemmas.List.Folds.{list_any-append}
use Rattle.std.proofs.lemmas.Map.Keys.{IsDistinct-push}
use Rattle.std.proofs.lemmas.Map.Steps.{length-le_from_distinct_below}
use native.Mathlib.Decide.{ℕ_discrete}
use Rattle.dpe_tree.specs.declared.node.State.{State}
use Rattle.dpe_tree.specs.Tree.{place_limit}
use Rattle.dpe_tree.specs.Arena.{IsFreeList}

pub or_cases : (a b : Bool) → (a || b) ≡ true → (a ≡ true) ⊎ (b ≡ true)
or_cases true b h = inl refl
or_cases false b h = inr h

or_false : (a : Bool) → (a || false) ≡ a
or_false true = refl
or_false false = refl

-- a list with one number more has these, and that one
pub has_more : (p x : ℕ) (xs : List ℕ) → list_any (nat_eq p) (xs ++ x ∷ []) ≡ (list_any (nat_eq p) xs || nat_eq p x)
has_more p x xs = list_any-append (nat_eq p) xs (x ∷ []) ∙ ap (λ b. list_any (nat_eq p) xs || b) (or_false (nat_eq p x))

pub has_other : (p x : ℕ) (xs : List ℕ) → p ≢ x → list_any (nat_eq p) (xs ++ x ∷ []) ≡ list_any (nat_eq p) xs
has_other p x xs ne = has_more p x xs ∙ (ap (λ b. list_any (nat_eq p) xs || b) (ne_eqb p x ne) ∙ or_false (list_any (nat_eq p) xs))

pub has_last : (x : ℕ) (xs : List ℕ) → list_any (nat_eq x) (xs ++ x ∷ []) ≡ true
has_last x xs = has_more x x xs ∙ or_right (list_any (nat_eq x) xs) (nat_eq x x) (eq-eqb x x refl)

front_of_all : (P : ℕ → Type 0) (xs : List ℕ) (y : ℕ) → AllByRecursion P (xs ++ y ∷ []) → AllByRecursion P xs × P y
front_of_all P [] y all = (tt, all.0)
front_of_all P (x ∷ xs) y all = let rest = front_of_all P xs y all.1 in ((all.0, rest.0), rest.1)

-- the last of different numbers isn't among the others
pub last_apart : (xs : List ℕ) (y : ℕ) → IsDistinct nat_eq (xs ++ y ∷ []) → IsDistinct nat_eq xs × (list_any (nat_eq y) xs ≡ false)
unfolding IsDistinct
last_apart [] y d = (tt, refl)
last_apart (x ∷ xs) y d =
    let all = front_of_all (λ z. nat_eq x z ≡ false) xs y d.0 in
    let rest = last_apart xs y d.1 in
    let other : nat_eq y x ≡ false = ne_eqb y x (λ e. eqb-false x y all.1 (sym e)) in
    ((all.0, rest.0), ap (λ b. b || list_any (nat_eq y) xs) other ∙ rest.1)

-- the next free place
pub taken : (state state' : ℕ → State) (front : List ℕ) (x : ℕ) → IsFreeList state (front ++ x ∷ []) →
    (state' x).used ≡ true → ((p : ℕ) → p ≢ x → (state' p).used ≡ (state p).used) → IsFreeList state' front
taken state state' front x f here else = record {
  distinct = (last_apart front x f.distinct).0;
  places = λ p has. f.places p (has_more p x front ∙ or_left (list_any (nat_eq p) front) (nat_eq p x) has);
  unused = λ p lt. elim (ℕ_discrete p x) [
    | yes e ↦ ap (λ i. list_any (nat_eq i) front) e ∙ ((last_apart front x f.distinct).1 ∙ sym (ap (λ i. not (state' i).used) e ∙ ap not here))
    | no ne ↦ sym (has_other p x front ne) ∙ (f.unused p lt ∙ ap not (sym (else p ne)))
  ];
}

pub last_is_free : (state : ℕ → State) (front : List ℕ) (x : ℕ) → IsFreeList state (front ++ x ∷ []) → (x < place_limit) × ((state x).used ≡ false)
last_is_free state front x f =
    let lt = f.places x (has_last x front) in
    (lt, not_is (state x).used (sym (f.unused x lt) ∙ has_last x front)) where
      not_is : (b : Bool) → not b ≡ true → b ≡ false
      not_is true h = cc h
      not_is false h = refl

module _ (state : ℕ → State) (free : List ℕ) (f : IsFreeList state free) (x : ℕ) (within : x < place_limit) (used : (state x).used ≡ true) where
  apart : list_any (nat_eq x) free ≡ false
  apart = f.unused x within ∙ ap not used

  distinct_more : IsDistinct nat_eq (free ++ x ∷ [])
  distinct_more = IsDistinct-push nat_eq_equiv free x f.distinct apart

  below : (p : ℕ) → list_any (nat_eq p) (free ++ x ∷ []) ≡ true → p < place_limit
  below p has = elim (or_cases (list_any (nat_eq p) free) (nat_eq p x) (sym (has_more p x free) ∙ has)) [
    | inl before ↦ f.places p before
    | inr last ↦ (let e = eqb-true p x last in omega arith)
  ]

  -- there is room for the place that is given back
  pub room_to_give : length free < place_limit
  room_to_give =
      let few = length-le_from_distinct_below (free ++ x ∷ []) place_limit distinct_more below in
      omega (arith, length-append free (x ∷ []))

  pub given : (state' : ℕ → State) → (state' x).used ≡ false → ((p : ℕ) → p ≢ x → (state' p).used ≡ (state p).used) → IsFreeList state' (free ++ x ∷ [])
  given state' here else = record {
    distinct = distinct_more;
    places = below;
    unused = λ p lt. elim (ℕ_discrete p x) [
      | yes e ↦ ap (λ i. list_any (nat_eq i) (free ++ x ∷ [])) e ∙ (has_last x free ∙ sym (ap (λ i. not (state' i).used) e ∙ ap not here))
      | no ne ↦ has_other p x free ne ∙ (f.unused p lt ∙ ap not (sym (else p ne)))
    ];
  }

pub free_same : (state state' : ℕ → State) (free : List ℕ) → IsFreeList state free → ((p : ℕ) → (state' p).used ≡ (state p).used) → IsFreeList state' free
free_same state state' free f same = record { distinct = f.distinct; places = f.places; unused = λ p lt. f.unused p lt ∙ ap not (sym (same p)) }

-- ## The numbers below n

pub numbers : ℕ → List ℕ
numbers zero = []
numbers (suc n) = n ∷ numbers n

pub length-numbers : (n : ℕ) → length (numbers n) ≡ n
unfolding numbers
length-numbers zero = refl
length-numbers (suc n) = ap suc (length-numbers n)

pub number_below : (n q : ℕ) → list_any (nat_eq q) (numbers n) ≡ true → q < n
unfolding numbers
number_below zero q has = cc has
number_below (suc n) q has = elim (or_cases (nat_eq q n) (list_any (nat_eq q) (numbers n)) has) [
  | inl here ↦ (let e = eqb-true q n here in omega arith)
  | inr more ↦ (let lt = number_below n q more in omega arith)
]

others_below : (m n : ℕ) → n ≤ m → AllByRecursion (λ y. nat_eq m y ≡ false) (numbers n)
unfolding numbers
others_below m zero le = tt
others_below m (suc n) le = (ne_eqb m n (λ e. omega arith), others_below m n (omega arith))

pub distinct-numbers : (n : ℕ) → IsDistinct nat_eq (numbers n)
unfolding numbers IsDistinct
distinct-numbers zero = tt
distinct-numbers (suc n) = (others_below n n (omega arith), distinct-numbers n)
