-- The table as it is made, and as it is closed by the seat that has all the stake.
use Rattle.std.proofs.Common.{◌≡◌, ◌≢◌, ℕ, zero, suc, ◌+◌, ◌<◌, ◌≤◌, Bool, true, false, cond, min, ◌==◌, List, [], ◌∷◌, ◌++◌, length, refl, ap, sym, subst, ◌∙◌, inl, inr, arith, Option, Some, None}
use mathlib.Core.Option.{some}
use mathlib.Core.List.{IsPrefix}
use lib.ListN.{get_elem?}
use Rattle.atomic_table.specs.Table.{State}
use Rattle.dpe_desk.specs.declared.sequential.Entry.{Entry}
use Rattle.dpe_desk.specs.declared.view.Terms.{Terms}
use Rattle.dpe_desk.specs.declared.view.View.{View}
use Rattle.dpe_desk.specs.Entries.{made_by, times, total}
use Rattle.dpe_desk.specs.Views.{named_so, stake, waits, holding, is_ticket}
use Rattle.dpe_desk.specs.Rule.{Fits, Kept, Suits, in_turn}
use Rattle.dpe_desk.proofs.Lists.{total_two, total_some, total_at, prefix_self, times_one, made_by_append, same_count}
use Rattle.std.proofs.Common.{map, slice_get, length-append}
use Rattle.std.proofs.lemmas.Bool.Decides.{nat_tests}
use native.Mathlib.Decide.{ℕ_discrete, dec_lt}
use mathlib.Core.Option.{some-injective, some-ne-none}
use Rattle.atomic_table.specs.Table.{opening, Final, Seen}
use Rattle.dpe_desk.specs.Rule.{opened}
use Rattle.dpe_desk.specs.Passes.{Ends}
use Rattle.dpe_desk.proofs.Keeping.{names_few}
use Rattle.dpe_desk.proofs.Turning.{holds_so, ticket_here}

pub in_turn_none : (first last n : ℕ) → last ≤ first → in_turn first last n ≡ 0
in_turn_none first last n le = grind (arith, nat_tests)

pub in_turn_here : (first last n : ℕ) → first ≤ n → n < last → in_turn first last n ≡ 1
in_turn_here first last n le lt = grind (arith, nat_tests)

pub in_turn_none_at : (first last n : ℕ) → last ≤ n → in_turn first last n ≡ 0
in_turn_none_at first last n le = grind (arith, nat_tests)

pub at_single : {A : Type 0} (x v : A) (j : ℕ) → get_elem? (x ∷ []) j ≡ some v → x ≡ v
at_single x v zero e = some-injective x v e
at_single x v (suc j) e = absurd (some-ne-none v (sym e))

pub first_name : (n : ℕ) → times n (0 ∷ []) + 0 ≡ in_turn 0 1 n
first_name n = grind (arith, nat_tests)

pub some_full : (o : Option ℕ) → o ≢ None → (t : ℕ) × (o ≡ Some t)
some_full None n = absurd (n refl)
some_full (Some t) n = (t, refl)

pub empty_list : {A : Type 0} (xs : List A) → length xs ≡ 0 → xs ≡ []
empty_list [] e = refl
empty_list (x ∷ xs) e = absurd (omega arith)

pub waiting_ticket : (t : ℕ) (o : Option ℕ) → o ≡ None → is_ticket t o ≡ 0
waiting_ticket t o e = ap (is_ticket t) e

pub cond_nil : {A : Type 0} (b : Bool) (x : A) (xs : List A) → cond b (x ∷ xs) xs ≡ [] → xs ≡ []
cond_nil true x xs e = absurd (cc e)
cond_nil false x xs e = e

module _ {C R : Type 0} where
  -- what stands behind a list is an entry of its caller there
  pub late : (xs ys : List (Entry C R)) (k : ℕ) (e : Entry C R) → length xs ≤ k → slice_get (xs ++ ys) k ≡ Some e → made_by e.caller ys ≢ []
  late [] [] k e le h = absurd (cc h)
  late [] (y ∷ ys) zero e le h = λ z.
      let q : y ≡ e = cc h in
      let P : Entry C R → Type 0 = λ u. made_by u.caller (y ∷ ys) ≡ [] in
      let z' : made_by y.caller (y ∷ ys) ≡ [] = subst P (sym q) z in
      let same : (y.caller == y.caller) ≡ true = grind (arith, nat_tests) in
      let here : made_by y.caller (y ∷ ys) ≡ y ∷ made_by y.caller ys = ap (λ b. cond b (y ∷ made_by y.caller ys) (made_by y.caller ys)) same in
      let cons : y ∷ made_by y.caller ys ≡ [] = sym here ∙ z' in
      cc cons
  late [] (y ∷ ys) (suc k) e le h = λ z. late [] ys k e (omega arith) h (cond_nil (y.caller == e.caller) y (made_by e.caller ys) z)
  late (x ∷ xs) ys zero e le h = absurd (omega arith)
  late (x ∷ xs) ys (suc k) e le h = late xs ys k e (omega arith) h

  pub same_tail : (xs ys : List (Entry C R)) → xs ++ ys ≡ xs → ys ≡ []
  same_tail xs ys e = empty_list ys (let a : length (xs ++ ys) ≡ length xs = ap length e in let b = length-append xs ys in omega arith)

module _ {O K C R : Type 0} (kind : O → K) (entries : O → List (Entry C R)) (left : O → ℕ) (legal : K → List (Entry C R) → Type 0)
    (closed : (k : K) (xs ys : List (Entry C R)) → legal k (xs ++ ys) → legal k xs) (terms : Terms K C R) where
  pub opens : (x : O) → kind x ≡ terms.kind → entries x ≡ terms.opening → legal terms.kind terms.opening
      → length terms.opening ≤ terms.capacity → terms.capacity ≤ length terms.opening + left x → terms.capacity ≤ 65536
      → ((n : ℕ) → n < 65536 → made_by n terms.opening ≡ []) → (n : ℕ) → n ≡ length terms.opening → (items : List (Option O)) → items ≡ Some x ∷ []
      → Kept kind entries left legal terms (opening (n ∷ n ∷ 1 ∷ []) items (opened terms))
  opens x of_kind has is_legal fits room small quiet n count items one =
      let v = opened terms in
      let first : Fits terms terms.opening n v = record {
        same = λ t e. cc e;
        staked = omega arith;
        knows = omega arith;
        told = omega arith;
        begins = prefix_self terms.opening;
        our_part = (terms.opening, refl);
        their_part = (terms.opening, refl);
        own = λ m h. (let e = times_one m 0 h in let a = quiet m (omega arith) in (a, a));
        makes = λ m h. refl;
        over = λ t e. absurd cc;
        nameless = λ e. absurd (cc e);
        at_work = λ e. absurd cc;
      } in
      record {
        log = terms.opening;
        tickets = n;
        names = 1;
        words = ap (λ m. m ∷ n ∷ 1 ∷ []) count;
        is_legal = is_legal;
        opened = prefix_self terms.opening;
        small = small;
        quiet = quiet;
        strangers = λ m h. refl;
        each = λ j u e. subst (Fits terms terms.opening n) (at_single v u j e) first;
        one_each = first_name;
        names_held = omega arith;
        stakes = omega arith;
        served = omega arith;
        turns = λ t. sym (in_turn_none (length terms.opening) (min n terms.capacity) t (omega arith));
        last = omega arith;
        slot = inl (x, ap (map some) one, record { of_kind = of_kind; has = has; room = room }, omega arith);
      }

  module _ (s : State (Option O) (View K C R)) (k : Kept kind entries left legal terms s) (id : ℕ) (v : View K C R) (at : get_elem? s.views id ≡ some v)
      (all : v.stake ≡ 65536) (no_ticket : v.ticket ≡ None) where
    -- no other seat has a name
    pub alone : (j : ℕ) (u : View K C R) → get_elem? s.views j ≡ some u → j ≢ id → u.names ≡ []
    alone j u at_u ne = empty_list u.names (let a = total_two stake s.views j id u v ne at_u at in let b = k.stakes in let c = (k.each j u at_u).staked in omega arith)

    pub no_waiting : (t j : ℕ) (u : View K C R) → get_elem? s.views j ≡ some u → waits t u ≡ 0
    no_waiting t j u at_u = elim (ℕ_discrete j id) [
      | yes e ↦ (
          let P : ℕ → Type 0 = λ i. get_elem? s.views i ≡ some u in
          let q : u ≡ v = some-injective u v (sym (subst P e at_u) ∙ at) in
          ap (waits t) q ∙ waiting_ticket t v.ticket no_ticket)
      | no ne ↦ waiting_ticket t u.ticket ((k.each j u at_u).nameless (alone j u at_u ne)).0
    ]

    pub none_waits : (t : ℕ) → total (waits t) s.views ≡ 0
    none_waits t = elim (ℕ_discrete (total (waits t) s.views) 0) [
      | yes e ↦ e
      | no ne ↦ absurd (let o = total_some (waits t) s.views (omega arith) in let a = no_waiting t o.0 o.1 o.2 in let b = o.3 in omega arith)
    ]

    -- each ticket below the capacity is served
    pub all_served : length k.log ≡ min k.tickets terms.capacity
    all_served = elim (dec_lt (length k.log) (min k.tickets terms.capacity)) [
      | yes lt ↦ absurd (let a = k.turns (length k.log) in let b = none_waits (length k.log) in let c = in_turn_here (length k.log) (min k.tickets terms.capacity) (length k.log) (omega arith) lt in omega arith)
      | no ge ↦ (let a = k.served in omega arith)
    ]

    pub has_name : (n : ℕ) → n < k.names → 0 < times n v.names
    has_name n lt =
        let a = k.one_each n in let b = in_turn_here 0 k.names n (omega arith) lt in
        let o = total_some (named_so n) s.views (omega arith) in
        elim (ℕ_discrete o.0 id) [
          | yes e ↦ (
              let P : ℕ → Type 0 = λ i. get_elem? s.views i ≡ some o.1 in
              let q : o.1 ≡ v = some-injective o.1 v (sym (subst P e o.2) ∙ at) in
              let Q : View K C R → Type 0 = λ u. 0 < times n u.names in subst Q q o.3)
          | no ne ↦ absurd (let r : times n o.1.names ≡ 0 = ap (times n) (alone o.0 o.1 o.2 ne) in let d = o.3 in omega arith)
        ]

    pub comes_home : (x : O) × (s.homes ≡ some (Some x) ∷ []) × Suits kind entries left legal terms k.log x
    comes_home = elim k.slot [
      | inl h ↦ (h.0, h.1, h.2)
      | inr h ↦ absurd (
          let b = h.1 in
          let o = total_some holding s.views (omega arith) in
          let t = ((k.each o.0 o.1 o.2).at_work (holds_so o.1.holds o.3)).0 in
          let a = no_waiting (length k.log) o.0 o.1 o.2 in
          let c : waits (length k.log) o.1 ≡ 1 = ap (is_ticket (length k.log)) t ∙ ticket_here (length k.log) in
          omega arith)
    ]

    pub caller_is_ours : (i : ℕ) (e : Entry C R) → length terms.opening ≤ i → slice_get k.log i ≡ Some e → 0 < times e.caller v.names
    caller_is_ours i e le h = elim (dec_lt e.caller k.names) [
      | yes lt ↦ has_name e.caller lt
      | no ge ↦ absurd (
          let rest = k.opened.0 in
          let P : List (Entry C R) → Type 0 = λ es. slice_get es i ≡ Some e in
          let a = late terms.opening rest i e le (subst P (sym k.opened.1) h) in
          let b = k.strangers e.caller (omega arith) in
          let c = sym (made_by_append e.caller terms.opening rest) ∙ (ap (made_by e.caller) k.opened.1 ∙ b) in
          a (same_tail (made_by e.caller terms.opening) (made_by e.caller rest) c))
    ]

    -- behind the opening list stand just the calls that its names made
    pub later_made : (n : ℕ) → made_by n k.opened.0 ≡ made_by n v.made
    later_made n =
        let f = k.each id v at in
        let parts : made_by n terms.opening ++ made_by n k.opened.0 ≡ made_by n k.log = sym (made_by_append n terms.opening k.opened.0) ∙ ap (made_by n) k.opened.1 in
        elim (dec_lt n k.names) [
          | yes lt ↦ (
              let few = names_few kind entries left legal closed terms s k k in
              let none : made_by n terms.opening ≡ [] = k.quiet n (omega arith) in
              let P : List (Entry C R) → Type 0 = λ es. es ++ made_by n k.opened.0 ≡ made_by n k.log in
              subst P none parts ∙ (f.own n (has_name n lt)).0)
          | no ge ↦ (
              let unnamed : times n v.names ≡ 0 =
              (let a = total_at (named_so n) s.views id v at in let b = k.one_each n in let c = in_turn_none_at 0 k.names n (omega arith) in omega arith) in
              same_tail (made_by n terms.opening) (made_by n k.opened.0) (parts ∙ k.strangers n (omega arith)) ∙ sym (f.makes n unnamed))
        ]

    pub all_counted : length k.log ≡ length terms.opening + length v.made
    all_counted =
        let e : length k.log ≡ length (terms.opening ++ k.opened.0) = ap length (sym k.opened.1) in
        let d = length-append terms.opening k.opened.0 in
        let m = same_count k.opened.0 v.made later_made in
        omega arith

    pub ends_at : (x : O) → Suits kind entries left legal terms k.log x → Ends kind entries legal terms v x
    ends_at x suits =
        let f = k.each id v at in
        let P : List (Entry C R) → Type 0 = λ es.
        IsPrefix terms.opening es × IsPrefix v.seen es × (v.known ≤ length es) × ((n : ℕ) → 0 < times n v.names → made_by n es ≡ made_by n v.made)
        × ((i : ℕ) (e : Entry C R) → length terms.opening ≤ i → slice_get es i ≡ Some e → 0 < times e.caller v.names)
        × (length es ≡ length terms.opening + length v.made) × (length es ≤ terms.capacity) × (v.full ≢ None → length es ≡ terms.capacity) in
        let served = all_served in
        let p = subst P (sym suits.has) (
          k.opened,
          f.begins,
          f.knows,
          (λ n h. (f.own n h).0),
          caller_is_ours,
          all_counted,
          omega arith,
          (λ ne. let t = some_full v.full ne in let o = f.over t.0 t.1 in let a = o.0 in let b = o.1 in omega arith),
        ) in
        record { of_kind = suits.of_kind; is_legal = let Q : K → Type 0 = λ c. legal c (entries x) in let L : List (Entry C R) → Type 0 = legal terms.kind in subst Q (sym suits.of_kind) (subst L (sym suits.has) k.is_legal); from_opening = p.0; from_seen = p.1; told = p.2; own = p.3; callers = p.4; counted = p.5; most = p.6; full = p.7 }

  -- the slot that was given back at the end
  pub closes : (id : ℕ) (v : View K C R) (ws : List ℕ) (xs : List (Option O)) → Final (Seen (Kept kind entries left legal terms) id v) ws xs
      → v.stake ≡ 65536 → v.ticket ≡ None → (r : Option O) → get_elem? xs 0 ≡ some r → (x : O) × (r ≡ Some x) × Ends kind entries legal terms v x
  closes id v ws xs final all no_ticket r got =
      let s = final.0 in let k = final.1.0 in let at = final.1.1 in
      let h = comes_home s k id v at all no_ticket in
      let there = final.4 0 (Some h.0) (ap (λ hs. get_elem? hs 0) h.1) in
      (h.0, some-injective r (Some h.0) (sym got ∙ there), ends_at s k id v at all no_ticket h.0 h.2)
