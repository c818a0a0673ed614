-- Links that are opened one after the other, and handed back.
use Rattle.std.proofs.Common.{◌≡◌, ℕ, zero, suc, ◌+◌, ◌<◌, ◌≤◌, List, [], ◌∷◌, ◌++◌, length, get_or, inl, inr, refl, sym, ap, subst, ◌∙◌, arith, append_assoc, append-nil, length-append, zero-add}
use Rattle.std.specs.Prelude.{All}
use Rattle.std.proofs.lemmas.List.Elements.{All-append}
use Rattle.dpe_io.specs.Causes.{Rose}
use Rattle.dpe_io.specs.Told.{Kind, Opens, OpensNone, Returns, Placed}
use Rattle.dpe_io.specs.Told.{Told}
use Rattle.dpe_script.specs.Run.{LinksKept, SomeLinkFailed}
use Rattle.dpe_script.specs.Client.{AllOpen, AllReturn, OpensFront, count_of, KindKept, KindFailed}

-- ---- opened

pub open_more : {T : Type 0} (old mid new : Kind T) (xs : List T) (x : T) → AllOpen old xs mid → Opens mid x new → AllOpen old (xs ++ x ∷ []) new
open_more {T} old mid new [] x all one = (new, subst (λ (k : Kind T). Opens k x new) all one, refl)
open_more old mid new (y ∷ ys) x (next, first, all) one = (next, first, open_more next mid new ys x all one)

pub open_out : {T : Type 0} (old new : Kind T) (xs : List T) → AllOpen old xs new → new.out ≡ old.out + length xs
open_out old new [] all = ap (λ k. k.out) all ∙ omega arith
open_out old new (x ∷ xs) (next, first, all) = let e : new.out ≡ next.out + length xs = open_out next new xs all in let f = first.out in omega arith

pub open_kept : {T : Type 0} (old new : Kind T) (xs : List T) → AllOpen old xs new → KindKept old new
open_kept old new [] all = (ap (λ k. k.failed) all, ap (λ k. k.faults) all)
open_kept old new (x ∷ xs) (next, first, all) = let k = open_kept next new xs all in (k.0 ∙ first.failed, k.1 ∙ first.faults)

-- the loop that opens
pub record IsOpening {L : Type 0} (P : L → Type 0) (old now : Kind L) (xs : List L) (at : ℕ) : Type 0 where
  pub opened : AllOpen old xs now
  pub size : length xs ≡ at
  pub each : All P xs

module _ {L : Type 0} (P : L → Type 0) (old : Kind L) where
  pub opening_start : (xs : List L) → xs ≡ [] → IsOpening P old old xs 0
  opening_start xs none = subst (λ (l : List L). IsOpening P old old l 0) (sym none) (record { opened = refl; size = refl; each = λ k d lt. absurd (omega arith) })

  pub opening_more : (now new : Kind L) (xs ys : List L) (x : L) (at : ℕ) → IsOpening P old now xs at → Opens now x new → P x → ys ≡ xs ++ x ∷ [] → IsOpening P old new ys (at + 1)
  opening_more now new xs ys x at o one good is =
      subst (λ (l : List L). IsOpening P old new l (at + 1)) (sym is)
      (record {
        opened = open_more old now new xs x o.opened one;
        size = length-append xs (x ∷ []) ∙ ap (λ (n : ℕ). n + 1) o.size;
        each = All-append P xs (x ∷ []) o.each (all_of_one x good);
      })
    where
      all_of_one : (y : L) → P y → All P (y ∷ [])
      all_of_one y h zero d lt = h
      all_of_one y h (suc k) d lt = absurd (omega arith)

  pub opening_fails : (now new : Kind L) (xs : List L) (at count : ℕ) → IsOpening P old now xs at → OpensNone now new → at < count → OpensFront count old xs new
  opening_fails now new xs at count o none lt = record { mid = now; opens = o.opened; fails = none; few = (let s = o.size in omega arith) }

-- ---- handed back

module _ {L : Type 0} (told : L → Told) where
  pub return_more : (place : ℕ) (old mid new : Kind L) (xs : List L) (x : L) → AllReturn told place old xs mid → Returns mid (count_of (told x)) x new → Placed mid (place + length xs) new
      → AllReturn told place old (xs ++ x ∷ []) new
  return_more place old mid new [] x all one at =
      (new, subst (λ (k : Kind L). Returns k (count_of (told x)) x new) all one, subst (λ (k : Kind L). Placed k place new) all (subst (λ (n : ℕ). Placed mid n new) (omega arith) at), refl)
  return_more place old mid new (y ∷ ys) x (next, first, put, all) one at =
      (next, first, put, return_more (place + 1) next mid new ys x all one (subst (λ (n : ℕ). Placed mid n new) (omega arith) at))

  pub return_out : (place : ℕ) (old new : Kind L) (xs : List L) → AllReturn told place old xs new → new.out + length xs ≡ old.out
  return_out place old new [] all = let e = ap (λ (k : Kind L). k.out) all in omega arith
  return_out place old new (x ∷ xs) (next, first, put, all) = let e = return_out (place + 1) next new xs all in let f = first.out in omega arith

  pub return_failed : (place : ℕ) (old new : Kind L) (xs : List L) → AllReturn told place old xs new → new.failed ≡ old.failed
  return_failed place old new [] all = ap (λ (k : Kind L). k.failed) all
  return_failed place old new (x ∷ xs) (next, first, put, all) = return_failed (place + 1) next new xs all ∙ first.failed

  pub return_later : (place : ℕ) (old new : Kind L) (xs : List L) → AllReturn told place old xs new → old.faults ≤ new.faults
  return_later place old new [] all = let e = ap (λ (k : Kind L). k.faults) all in omega arith
  return_later place old new (x ∷ xs) (next, first, put, all) = let e = return_later (place + 1) next new xs all in let f = first.later in omega arith

  pub return_faultless : (place : ℕ) (old new : Kind L) (xs : List L) → AllReturn told place old xs new → ((k : ℕ) (d : L) → k < length xs → count_of (told (get_or xs k d)) ≡ 0) → new.faults ≡ old.faults
  return_faultless place old new [] all none = ap (λ (k : Kind L). k.faults) all
  return_faultless place old new (x ∷ xs) (next, first, put, all) none =
      return_faultless (place + 1) next new xs all (λ k d lt. none (suc k) d (omega arith)) ∙ first.faultless (none 0 x (omega arith))

  pub return_faulty : (place : ℕ) (old new : Kind L) (xs : List L) → AllReturn told place old xs new → (k : ℕ) (d : L) → k < length xs → 0 < count_of (told (get_or xs k d)) → Rose old.faults new.faults
  return_faulty place old new [] all k d lt some = absurd (omega arith)
  return_faulty place old new (x ∷ xs) (next, first, put, all) zero d lt some = let rose = first.faulty some in let e = return_later (place + 1) next new xs all in omega arith
  return_faulty place old new (x ∷ xs) (next, first, put, all) (suc k) d lt some =
      let rose = return_faulty (place + 1) next new xs all k d (omega arith) some in let f = first.later in omega arith

  -- ---- both

  abbrev pub AreFaultless : List L → Type 0
  AreFaultless xs = (k : ℕ) (d : L) → k < length xs → ((told (get_or xs k d)).read_faults ≡ 0) × ((told (get_or xs k d)).write_faults ≡ 0)

  -- what was opened without faults and then had none is handed back without faults
  pub visit_kept : (old mid new : Kind L) (opened closed : List L) → AllOpen old opened mid → AllReturn told 0 mid closed new → length closed ≡ length opened → AreFaultless opened
      → LinksKept told opened closed → KindKept old new
  visit_kept old mid new opened closed all back size none kept =
      let o = open_kept old mid opened all in
      let f : new.faults ≡ mid.faults = return_faultless 0 mid new closed back
      (λ k d lt. let below : k < length opened = omega arith in let was = none k d below in let is = kept k d below in omega arith) in
      (return_failed 0 mid new closed back ∙ o.0, f ∙ o.1)

  pub visit_failed : (old mid new : Kind L) (opened closed : List L) → AllOpen old opened mid → AllReturn told 0 mid closed new → length closed ≡ length opened → AreFaultless opened
      → SomeLinkFailed told opened closed → KindFailed old new
  visit_failed old mid new opened closed all back size none (k, d, lt, failed) =
      let o = open_kept old mid opened all in
      let was = none k d lt in
      let below : k < length closed = omega arith in
      let some : 0 < count_of (told (get_or closed k d)) = elim failed [ inl r ↦ omega arith | inr w ↦ omega arith ] in
      inr (subst (λ (n : ℕ). Rose n new.faults) o.1 (return_faulty 0 mid new closed back k d below some))

  -- an opening failed behind links that had no faults
  pub visit_unopened : (old mid failed new : Kind L) (opened : List L) → AllOpen old opened mid → OpensNone mid failed → AllReturn told 0 failed opened new → KindFailed old new
  visit_unopened old mid failed new opened all none back =
      let o = open_kept old mid opened all in
      let r = return_failed 0 failed new opened back in
      inl (subst (λ (n : ℕ). Rose n new.failed) o.0 (subst (λ (n : ℕ). Rose mid.failed n) (sym r) none.rose))

  pub visit_out : (old mid new : Kind L) (opened closed : List L) → AllOpen old opened mid → AllReturn told 0 mid closed new → length closed ≡ length opened → new.out ≡ old.out
  visit_out old mid new opened closed all back size = let o = open_out old mid opened all in let r = return_out 0 mid new closed back in omega arith

  -- ---- the loop that hands back

  pub record IsTaking (items rest : List L) (place : ℕ) (old now : Kind L) : Type 0 where
    pub done : List L
    pub split : items ≡ done ++ rest
    pub count : place ≡ length done
    pub returned : AllReturn told 0 old done now

  pub taking_start : (items rest : List L) (old : Kind L) → rest ≡ items → IsTaking items rest 0 old old
  taking_start items rest old is = record { done = []; split = sym is; count = refl; returned = refl }

  pub taking_out : (items before rest : List L) (x : L) (place : ℕ) (old now : Kind L) → IsTaking items before place old now → before ≡ x ∷ rest → length items ≤ old.out → 1 ≤ now.out
  taking_out items before rest x place old now t is enough =
      let r = return_out 0 old now t.done t.returned in
      let n : length items ≡ length t.done + length before = ap length t.split ∙ length-append t.done before in
      let m : length before ≡ suc (length rest) = ap length is in
      omega arith

  pub taking_place : (items rest : List L) (place : ℕ) (old now : Kind L) → IsTaking items rest place old now → place ≤ length items
  taking_place items rest place old now t =
      let c = t.count in let n : length items ≡ length t.done + length rest = ap length t.split ∙ length-append t.done rest in omega arith

  pub taking_more : (items before rest : List L) (x : L) (place : ℕ) (old now new : Kind L) → IsTaking items before place old now → before ≡ x ∷ rest → Returns now (count_of (told x)) x new → Placed now place new
      → IsTaking items rest (place + 1) old new
  taking_more items before rest x place old now new t is back at = record {
    done = t.done ++ x ∷ [];
    split = t.split ∙ ap (λ (l : List L). t.done ++ l) is ∙ sym (append_assoc t.done (x ∷ []) rest);
    count = ap (λ (n : ℕ). n + 1) t.count ∙ sym (length-append t.done (x ∷ []));
    returned = return_more 0 old now new t.done x t.returned back (subst (λ (n : ℕ). Placed now n new) (t.count ∙ sym (zero-add (length t.done))) at);
  }

  pub taking_done : (items rest : List L) (place : ℕ) (old now : Kind L) → IsTaking items rest place old now → length rest ≡ 0 → AllReturn told 0 old items now
  taking_done items [] place old now t none = subst (λ (l : List L). AllReturn told 0 old l now) (sym (t.split ∙ append-nil t.done)) t.returned
  taking_done items (x ∷ xs) place old now t none = absurd (omega arith)
