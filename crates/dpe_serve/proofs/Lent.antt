-- Objects opened and handed back, one more at a time.
use Rattle.std.proofs.Common.{◌≡◌, ℕ, zero, suc, ◌+◌, ◌<◌, ◌≤◌, ◌⊎◌, inl, inr, List, [], ◌∷◌, ◌++◌, Option, Some, None, refl, sym, ap, subst, ◌∙◌, append_assoc, append-nil, arith}
use Rattle.std.proofs.Math.Numerals.{add-one}
use Rattle.std.proofs.lemmas.List.{length-append}
use Rattle.dpe_io.specs.Causes.{Rose}
use Rattle.dpe_io.specs.Told.{IfTold, Kind, Opens, Returns, Placed, KeepsPlaces, with_last}
use Rattle.dpe_model.proofs.Runs.{front_all, rest_all}
use Rattle.dpe_serve.specs.Lending.{OpensAll, ReturnsAll, PlacedFrom, LendsOne, HaveFault, numbers_from, with_all}

rose_then : (a b c : ℕ) → Rose a b → b ≤ c → Rose a c
rose_then a b c r l = omega (arith, r, l)

then_rose : (a b c : ℕ) → a ≤ b → Rose b c → Rose a c
then_rose a b c l r = omega (arith, l, r)

with_none : {A : Type 0} (told : Option (List A)) → told ≡ with_all told []
with_none None = refl
with_none (Some xs) = ap Some (sym (append-nil xs))

with_more : {A : Type 0} (told : Option (List A)) (xs : List A) (x : A) → with_last (with_all told xs) x ≡ with_all told (xs ++ x ∷ [])
with_more None xs x = refl
with_more (Some ys) xs x = ap Some (append_assoc ys xs (x ∷ []))

numbers_more : (place count : ℕ) → numbers_from place (suc count) ≡ numbers_from place count ++ (place + count) ∷ []
numbers_more place zero = let e : place ≡ place + 0 = omega arith in ap (λ (n : ℕ). n ∷ []) e
numbers_more place (suc count) =
    let e : place + 1 + count ≡ place + suc count = omega arith in
    ap (λ (ns : List ℕ). place ∷ ns)
    (numbers_more (place + 1) count ∙ ap (λ (n : ℕ). numbers_from (place + 1) count ++ n ∷ []) e)

module _ {T : Type 0} where
  told_none : (told : Option (List T)) → IfTold (λ xs ys. xs ≡ [] ++ ys) told told
  told_none None = tt
  told_none (Some xs) = refl

  told_more : (a b c : Option (List T)) (xs : List T) (x : T) →
      IfTold (λ p q. p ≡ xs ++ q) a b → IfTold (λ p q. p ≡ x ∷ q) b c → IfTold (λ p q. p ≡ (xs ++ x ∷ []) ++ q) a c
  told_more None b c xs x h k = tt
  told_more (Some p) None c xs x h k = absurd h
  told_more (Some p) (Some q) None xs x h k = absurd k
  told_more (Some p) (Some q) (Some r) xs x h k = h ∙ (ap (λ (t : List T). xs ++ t) k ∙ sym (append_assoc xs (x ∷ []) r))

  pub opens_none : (k : Kind T) → OpensAll k [] k
  opens_none k =
      record {
        next = told_none k.unopened;
        back = refl;
        places = refl;
        opened = omega arith;
        out = omega arith;
        failed = refl;
        faults = refl;
      }

  pub opens_more : (old mid new : Kind T) (xs : List T) (x : T) → OpensAll old xs mid → Opens mid x new → OpensAll old (xs ++ x ∷ []) new
  opens_more old mid new xs x h k =
      let long = length-append xs (x ∷ []) in
      record {
        next = told_more old.unopened mid.unopened new.unopened xs x h.next k.next;
        back = k.back ∙ h.back;
        places = k.places ∙ h.places;
        opened = omega (arith, long, h.opened, k.opened);
        out = omega (arith, long, h.out, k.out);
        failed = k.failed ∙ h.failed;
        faults = k.faults ∙ h.faults;
      }

  one_has : (faults : T → ℕ) (xs : List T) (x : T) → HaveFault faults (xs ++ x ∷ []) → HaveFault faults xs ⊎ (0 < faults x)
  one_has faults [] x (inl h) = inr h
  one_has faults [] x (inr h) = absurd h
  one_has faults (y ∷ xs) x (inl h) = inl (inl h)
  one_has faults (y ∷ xs) x (inr h) = elim (one_has faults xs x h) [ inl k ↦ inl (inr k) | inr k ↦ inr k ]

  pub returns_none : (faults : T → ℕ) (k : Kind T) → ReturnsAll faults k [] k
  returns_none faults k =
      record {
        unopened = refl;
        back = with_none k.back;
        opened = refl;
        out = omega arith;
        failed = refl;
        faultless = λ h. refl;
        faulty = λ h. absurd h;
        later = omega arith;
      }

  pub returns_more : (faults : T → ℕ) (old mid new : Kind T) (xs : List T) (x : T) →
      ReturnsAll faults old xs mid → Returns mid (faults x) x new → ReturnsAll faults old (xs ++ x ∷ []) new
  returns_more faults old mid new xs x h k =
      let long = length-append xs (x ∷ []) in
      record {
        unopened = k.unopened ∙ h.unopened;
        back = k.back ∙ (ap (λ (told : Option (List T)). with_last told x) h.back ∙ with_more old.back xs x);
        opened = k.opened ∙ h.opened;
        out = omega (arith, long, h.out, k.out);
        failed = k.failed ∙ h.failed;
        faultless =
            λ none.
            k.faultless (rest_all (λ y. faults y ≡ 0) xs (x ∷ []) none).0 ∙ h.faultless (front_all (λ y. faults y ≡ 0) xs (x ∷ []) none);
        faulty =
            λ some.
            elim (one_has faults xs x some) [
              | inl a ↦ rose_then old.faults mid.faults new.faults (h.faulty a) k.later
              | inr a ↦ then_rose old.faults mid.faults new.faults h.later (k.faulty a)
            ];
        later = omega (arith, h.later, k.later);
      }

  pub placed_none : (k : Kind T) → PlacedFrom k 0 0 k
  placed_none k = with_none k.places

  pub placed_more : (old mid new : Kind T) (count place : ℕ) → PlacedFrom old 0 count mid → place ≡ count → Placed mid place new → PlacedFrom old 0 (count + 1) new
  placed_more old mid new count place h is k =
      k
      ∙ (ap (λ (told : Option (List ℕ)). with_last told place) h
      ∙ (with_more old.places (numbers_from 0 count) place
      ∙ ap (λ (ns : List ℕ). with_all old.places ns)
      (ap (λ (n : ℕ). numbers_from 0 count ++ n ∷ []) (let e : place ≡ 0 + count = omega (arith, is) in e)
      ∙ (sym (numbers_more 0 count) ∙ ap (numbers_from 0) (sym (add-one count))))))

  -- ## One object, opened and handed back

  told_one : (a b d : Option (List T)) (x : T) → IfTold (λ p q. p ≡ x ∷ q) a b → d ≡ b → IfTold (λ p q. p ≡ (x ∷ []) ++ q) a d
  told_one a b d x h is = subst (λ (t : Option (List T)). IfTold (λ p q. p ≡ (x ∷ []) ++ q) a t) (sym is) h

  back_one : (told : Option (List T)) (x : T) → with_last told x ≡ with_all told (x ∷ [])
  back_one None x = refl
  back_one (Some xs) x = refl

  pub lends_one : (faults : T → ℕ) (old mid new : Kind T) (x y : T) → Opens old x mid → Returns mid (faults y) y new → KeepsPlaces mid new → LendsOne faults old x y new
  lends_one faults old mid new x y h k places =
      record {
        lends =
            record {
              next = told_one old.unopened mid.unopened new.unopened x h.next k.unopened;
              back = k.back ∙ (ap (λ (told : Option (List T)). with_last told y) h.back ∙ back_one old.back y);
              number = refl;
              opened = omega (arith, h.opened, k.opened);
              out = omega (arith, h.out, k.out);
              faultless = λ none. k.faultless none.0 ∙ h.faults;
              faulty =
                  λ some.
                  elim some [
                    | inl a ↦ subst (λ (n : ℕ). Rose n new.faults) h.faults (k.faulty a)
                    | inr a ↦ absurd a
                  ];
            };
        places = places ∙ h.places;
        failed = k.failed ∙ h.failed;
      }
