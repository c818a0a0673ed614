-- A value that is put at the place of a name.
use Rattle.std.proofs.Common.{◌≡◌, ℕ, suc, ◌<◌, Bool, true, false, ◌||◌, List, [], ◌∷◌, length, set, Option, Some, None, refl, sym, ap, subst, ◌∙◌, arith}
use Rattle.std.specs.Option.{option_map, option_and_then, unwrap_or}
use Rattle.std.specs.Prelude.{slice_get, bytes_eq, if◌then◌else◌}
use Rattle.std.proofs.lemmas.Slice.Eq.{bytes_eq-Decides}
use Rattle.dpe_script.specs.Names.{is_among}
use Rattle.dpe_script.specs.Meaning.{taken}
use Rattle.dpe_script.specs.CodeValues.{place_of, found}
use Rattle.dpe_script.proofs.Places.{place_hit, place_miss}

behind : (d v : List ℕ) (values : List (List ℕ)) (o : Option ℕ)
    → unwrap_or (option_and_then (slice_get (v ∷ values)) (option_map suc o)) d ≡ unwrap_or (option_and_then (slice_get values) o) d
behind d v values None = refl
behind d v values (Some i) = refl

found_hit : (d n v name : List ℕ) (names values : List (List ℕ)) → bytes_eq n name ≡ true → found d (n ∷ names) (v ∷ values) name ≡ v
found_hit d n v name names values e = ap (λ (o : Option ℕ). unwrap_or (option_and_then (slice_get (v ∷ values)) o) d) (place_hit n name names e)

found_miss : (d n v name : List ℕ) (names values : List (List ℕ)) → bytes_eq n name ≡ false → found d (n ∷ names) (v ∷ values) name ≡ found d names values name
found_miss d n v name names values e =
    ap (λ (o : Option ℕ). unwrap_or (option_and_then (slice_get (v ∷ values)) o) d) (place_miss n name names e) ∙ behind d v values (place_of names name)

same : (xs ys : List ℕ) → bytes_eq xs ys ≡ true → xs ≡ ys
same xs ys = (bytes_eq-Decides xs ys).0

true_of : (xs ys : List ℕ) → xs ≡ ys → bytes_eq xs ys ≡ true
true_of xs ys = (bytes_eq-Decides xs ys).1

-- three names of which the first is one of the others alone: those two are apart
apart : (n name target : List ℕ) (b : Bool) → bytes_eq name target ≡ b → (name ≡ target → ⊥) → b ≡ false
apart n name target false e not = refl
apart n name target true e not = absurd (not (same name target e))

first_alone : (n name target : List ℕ) → bytes_eq n name ≡ true → bytes_eq n target ≡ false → bytes_eq name target ≡ false
first_alone n name target e f =
    apart n name target (bytes_eq name target) refl (λ is. let t : bytes_eq n target ≡ true = true_of n target (same n name e ∙ is) in cc)

second_alone : (n name target : List ℕ) → bytes_eq n name ≡ false → bytes_eq n target ≡ true → bytes_eq name target ≡ false
second_alone n name target e f =
    apart n name target (bytes_eq name target) refl (λ is. let t : bytes_eq n name ≡ true = true_of n name (same n target f ∙ sym is) in cc)

both_same : (n name target : List ℕ) → bytes_eq n name ≡ true → bytes_eq n target ≡ true → bytes_eq name target ≡ true
both_same n name target e f = true_of name target (sym (same n name e) ∙ same n target f)

-- what a name has once the target has this value
abbrev pub put : List ℕ → List ℕ → List ℕ → List ℕ → List ℕ
put target v old name = if bytes_eq name target then v else old

if_true : (b : Bool) (x y : List ℕ) → b ≡ true → (if b then x else y) ≡ x
if_true b x y e = ap (λ (c : Bool). if c then x else y) e

if_false : (b : Bool) (x y : List ℕ) → b ≡ false → (if b then x else y) ≡ y
if_false b x y e = ap (λ (c : Bool). if c then x else y) e

module _ (d v w n name target : List ℕ) (names values : List (List ℕ)) where
  at_front : bytes_eq n target ≡ true → found d (n ∷ names) (v ∷ values) name ≡ put target v (found d (n ∷ names) (w ∷ values) name) name
  at_front f = by_test (bytes_eq n name) refl
    where
      by_test : (b : Bool) → bytes_eq n name ≡ b → found d (n ∷ names) (v ∷ values) name ≡ put target v (found d (n ∷ names) (w ∷ values) name) name
      by_test true e = found_hit d n v name names values e ∙ sym (if_true (bytes_eq name target) v (found d (n ∷ names) (w ∷ values) name) (both_same n name target e f))
      by_test false e =
          found_miss d n v name names values e ∙ sym (found_miss d n w name names values e)
          ∙ sym (if_false (bytes_eq name target) v (found d (n ∷ names) (w ∷ values) name) (second_alone n name target e f))

  further : (others : List (List ℕ)) → bytes_eq n target ≡ false → found d names others name ≡ put target v (found d names values name) name
      → found d (n ∷ names) (w ∷ others) name ≡ put target v (found d (n ∷ names) (w ∷ values) name) name
  further others f more = by_test (bytes_eq n name) refl
    where
      by_test : (b : Bool) → bytes_eq n name ≡ b → found d (n ∷ names) (w ∷ others) name ≡ put target v (found d (n ∷ names) (w ∷ values) name) name
      by_test true e =
          found_hit d n w name names others e ∙ sym (found_hit d n w name names values e)
          ∙ sym (if_false (bytes_eq name target) v (found d (n ∷ names) (w ∷ values) name) (first_alone n name target e f))
      by_test false e =
          found_miss d n w name names others e ∙ more ∙ ap (λ (x : List ℕ). put target v x name) (sym (found_miss d n w name names values e))

abbrev pub IsPut : List ℕ → List ℕ → List (List ℕ) → List (List ℕ) → ℕ → List ℕ → List ℕ → Type 0
IsPut d v names values at name target = found d names (set values at v) name ≡ put target v (found d names values name) name

step : (d v n w : List ℕ) (names values : List (List ℕ)) (at : ℕ) (name target : List ℕ)
    → ((k : ℕ) → place_of names target ≡ Some k → k < length values → IsPut d v names values k name target)
    → place_of (n ∷ names) target ≡ Some at → at < length (w ∷ values) → IsPut d v (n ∷ names) (w ∷ values) at name target
step d v n w names values at name target more is lt = by_test (bytes_eq n target) refl
  where
    by_place : bytes_eq n target ≡ false → (o : Option ℕ) → place_of names target ≡ o → option_map suc o ≡ Some at → IsPut d v (n ∷ names) (w ∷ values) at name target
    by_place f None p q = cc
    by_place f (Some k) p q =
        let e : suc k ≡ at = cc in
        let near : k < length values = omega arith in
        subst (λ (i : ℕ). IsPut d v (n ∷ names) (w ∷ values) i name target) e (further d v w n name target names values (set values k v) f (more k p near))

    by_test : (b : Bool) → bytes_eq n target ≡ b → IsPut d v (n ∷ names) (w ∷ values) at name target
    by_test true f =
        let p : Some 0 ≡ Some at = sym (place_hit n target names f) ∙ is in
        let e : 0 ≡ at = cc in
        subst (λ (i : ℕ). IsPut d v (n ∷ names) (w ∷ values) i name target) e (at_front d v w n name target names values f)
    by_test false f = by_place f (place_of names target) refl (sym (place_miss n target names f) ∙ is)

pub set_found : (d v : List ℕ) (names values : List (List ℕ)) (at : ℕ) (name target : List ℕ) → place_of names target ≡ Some at → at < length values → IsPut d v names values at name target
set_found d v [] values at name target is lt = cc
set_found d v (n ∷ names) [] at name target is lt = absurd (omega arith)
set_found d v (n ∷ names) (w ∷ values) at name target is lt = step d v n w names values at name target (λ k e h. set_found d v names values k name target e h) is lt

-- a name that is among others has a place
pub among_has_place : (names : List (List ℕ)) (name : List ℕ) → is_among names name ≡ true → place_of names name ≡ None → ⊥
among_has_place [] name e p = cc
among_has_place (n ∷ names) name e p = by_test (bytes_eq n name) refl (among_has_place names name)
  where
    none_before : (o : Option ℕ) → option_map suc o ≡ None → o ≡ None
    none_before None q = refl
    none_before (Some k) q = cc

    by_test : (b : Bool) → bytes_eq n name ≡ b → (is_among names name ≡ true → place_of names name ≡ None → ⊥) → ⊥
    by_test true f more = let q : Some 0 ≡ None = sym (place_hit n name names f) ∙ p in cc
    by_test false f more =
        more (sym (ap (λ (c : Bool). c || is_among names name) f) ∙ e) (none_before (place_of names name) (sym (place_miss n name names f) ∙ p))

-- the same for every name at once
pub found_put : (d v : List ℕ) (names values : List (List ℕ)) (at : ℕ) (target : List ℕ) → place_of names target ≡ Some at → at < length values
    → found d names (set values at v) ≡ taken (Some target) (Some v) (found d names values)
found_put d v names values at target is lt = λ i name. set_found d v names values at name target is lt i
