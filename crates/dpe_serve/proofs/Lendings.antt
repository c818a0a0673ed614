-- Objects that were opened and handed back: both together.
use Rattle.std.proofs.Common.{◌≡◌, ℕ, ◌+◌, List, ◌++◌, length, Option, refl, sym, ap, subst, ◌∙◌, arith}
use Rattle.dpe_io.specs.Causes.{Rose}
use Rattle.dpe_io.specs.Told.{IfTold, Kind, OpensNone}
use Rattle.dpe_serve.specs.Lending.{OpensAll, OpensUntil, ReturnsAll, PlacedFrom, Lends, LendsAll, LendsUntil, with_all, numbers_from}

module _ {T : Type 0} (faults : T → ℕ) (old mid new : Kind T) where
  -- ## All

  pub lends : (xs ys : List T) → OpensAll old xs mid → ReturnsAll faults mid ys new → length ys ≡ length xs → Lends faults old xs ys new
  lends xs ys o r same =
      record {
        next = subst (λ (told : Option (List T)). IfTold (λ p q. p ≡ xs ++ q) old.unopened told) (sym r.unopened) o.next;
        back = r.back ∙ ap (λ (told : Option (List T)). with_all told ys) o.back;
        number = same;
        opened = r.opened ∙ o.opened;
        out = omega (arith, r.out, o.out, same);
        faultless = λ none. r.faultless none ∙ o.faults;
        faulty = λ some. subst (λ (n : ℕ). Rose n new.faults) o.faults (r.faulty some);
      }

  pub lends_all : (xs ys : List T) (count : ℕ) → OpensAll old xs mid → ReturnsAll faults mid ys new → PlacedFrom mid 0 count new → length ys ≡ length xs → count ≡ length xs
      → LendsAll faults old xs ys new
  lends_all xs ys count o r placed same is =
      record {
        lends = lends xs ys o r same;
        places =
            placed
            ∙ (ap (λ (told : Option (List ℕ)). with_all told (numbers_from 0 count)) o.places
            ∙ ap (λ (n : ℕ). with_all old.places (numbers_from 0 n)) is);
        failed = r.failed ∙ o.failed;
      }

  -- ## Up to a failed opening

  pub lends_until : (xs : List T) (count : ℕ) → OpensUntil old xs mid → ReturnsAll faults mid xs new → PlacedFrom mid 0 count new → count ≡ length xs
      → LendsUntil faults old xs new
  lends_until xs count (between, o, none) r placed is =
      let unopened : mid.unopened ≡ between.unopened = ap (λ (k : Kind T). k.unopened) none.others in
      let back : mid.back ≡ between.back = ap (λ (k : Kind T). k.back) none.others in
      let places : mid.places ≡ between.places = ap (λ (k : Kind T). k.places) none.others in
      let opened : mid.opened ≡ between.opened = ap (λ (k : Kind T). k.opened) none.others in
      let out : mid.out ≡ between.out = ap (λ (k : Kind T). k.out) none.others in
      let faults_kept : mid.faults ≡ between.faults = ap (λ (k : Kind T). k.faults) none.others in
      let rose : Rose old.failed mid.failed = subst (λ (n : ℕ). Rose n mid.failed) o.failed none.rose in
      record {
        lends = record {
          next = subst (λ (told : Option (List T)). IfTold (λ p q. p ≡ xs ++ q) old.unopened told) (sym (r.unopened ∙ unopened)) o.next;
          back = r.back ∙ ap (λ (told : Option (List T)). with_all told xs) (back ∙ o.back);
          number = refl;
          opened = r.opened ∙ (opened ∙ o.opened);
          out = omega (arith, r.out, out, o.out);
          faultless = λ no_fault. r.faultless no_fault ∙ (faults_kept ∙ o.faults);
          faulty = λ some. subst (λ (n : ℕ). Rose n new.faults) (faults_kept ∙ o.faults) (r.faulty some);
        };
        places =
            placed
            ∙ (ap (λ (told : Option (List ℕ)). with_all told (numbers_from 0 count)) (places ∙ o.places)
            ∙ ap (λ (n : ℕ). with_all old.places (numbers_from 0 n)) is);
        rose = subst (λ (n : ℕ). Rose old.failed n) (sym r.failed) rose;
      }

-- ## Counts

pub until_out : {T : Type 0} (old new : Kind T) (xs : List T) → OpensUntil old xs new → new.out ≡ old.out + length xs
until_out {T} old new xs (between, o, none) =
    let out : new.out ≡ between.out = ap (λ (k : Kind T). k.out) none.others in
    omega (arith, out, o.out)

pub opens_none_out : {T : Type 0} (old new : Kind T) → OpensNone old new → new.out ≡ old.out
opens_none_out old new none = ap (λ k. k.out) none.others
