-- Places that are given back: one that has no use is no more used, and its parent has one child less.
use Rattle.std.proofs.Common.{◌≡◌, ◌≢◌, ℕ, zero, suc, ◌+◌, ◌<◌, ◌≤◌, ◌&&◌, true, false, nat_eq, refl, ap, sym, subst, ◌∙◌, inl, inr, arith, eqb-true, eq-eqb}
use native.Mathlib.Decide.{ℕ_discrete}
use Rattle.dpe_tree.specs.declared.node.Link.{Link}
use Rattle.dpe_tree.specs.declared.node.State.{State}
use Rattle.dpe_tree.specs.Tree.{place_limit}
use Rattle.dpe_tree.specs.Arena.{up, IsForest, IsKept, is_child, counted, HasUse, IsPruned}
use Rattle.dpe_tree.proofs.Counting.{counted_same, counted_more, counted_pos}
use Rattle.dpe_tree.proofs.Climbing.{up_used}
use Rattle.dpe_tree.proofs.Growing.{not_true}

-- the states before and after, by place
pub record IsReleased (link : ℕ → Link) (state state' : ℕ → State) (at : ℕ) : Type 0 where
  pub was_used : (state at).used ≡ true
  pub not_live : (state at).live ≡ false
  pub no_children : (state at).children ≡ 0
  pub used_here : (state' at).used ≡ false
  pub used_else : (p : ℕ) → p ≢ at → (state' p).used ≡ (state p).used
  pub children_parent : (state (link at).parent).used ≡ true → (state' (link at).parent).children + 1 ≡ (state (link at).parent).children
  pub children_else : (p : ℕ) → p ≢ (link at).parent → (state' p).children ≡ (state p).children
  pub live_same : (p : ℕ) → (state' p).live ≡ (state p).live
  pub cdis_same : (p : ℕ) → (state' p).cdis ≡ (state p).cdis

module _ (link : ℕ → Link) (state state' : ℕ → State) (f : IsForest link state) (at : ℕ) (r : IsReleased link state state' at) where
  -- nothing used has it as its parent
  childless : (c : ℕ) → (state c).used ≡ true → (link c).parent ≢ at
  childless c used e =
      let is : is_child link state at c ≡ true = ap (λ b. b && nat_eq (link c).parent at) used ∙ eq-eqb (link c).parent at e in
      let some = counted_pos (is_child link state at) place_limit c (f.places c used) is in
      let all = f.children at (f.places at r.was_used) in
      let none = r.no_children in
      absurd (omega arith)

  pub was : (p : ℕ) → (state' p).used ≡ true → (p ≢ at) × ((state p).used ≡ true)
  was p used = elim (ℕ_discrete p at) [
    | yes e ↦ cc (sym used ∙ (ap (λ i. (state' i).used) e ∙ r.used_here))
    | no ne ↦ (ne, sym (r.used_else p ne) ∙ used)
  ]

  parent_apart : (p : ℕ) → (state p).used ≡ true → (state (link p).parent).used ≡ true → (state' (link p).parent).used ≡ true
  parent_apart p used above = r.used_else (link p).parent (childless p used) ∙ above

  child_same : (p q : ℕ) → q ≢ at → is_child link state' p q ≡ is_child link state p q
  child_same p q ne = ap (λ b. b && nat_eq (link q).parent p) (r.used_else q ne)

  no_child_now : (p : ℕ) → is_child link state' p at ≡ false
  no_child_now p = ap (λ b. b && nat_eq (link at).parent p) r.used_here

  was_child : (p : ℕ) → is_child link state p at ≡ nat_eq (link at).parent p
  was_child p = ap (λ b. b && nat_eq (link at).parent p) r.was_used

  children_left : (p : ℕ) → p < place_limit → (state' p).children ≡ counted (is_child link state' p) place_limit
  children_left p lt = elim (ℕ_discrete p (link at).parent) [
    | yes e ↦ (
        let P : ℕ → Type 0 = λ i. (state' i).children ≡ counted (is_child link state' i) place_limit in
        let above : (state (link at).parent).used ≡ true = elim (f.linked at r.was_used) [ inl top ↦ absurd (let none = top.1 in omega arith) | inr more ↦ more.0 ] in
        let parent = (link at).parent in
        let more = counted_more (is_child link state' parent) (is_child link state parent) place_limit at (f.places at r.was_used) (no_child_now parent)
        (was_child parent ∙ eq-eqb parent parent refl) (λ k ne. child_same parent k ne) in
        let before = f.children parent (f.places parent above) in
        let less = r.children_parent above in
        subst P (sym e) (omega arith))
    | no ne ↦ r.children_else p ne ∙ (f.children p lt ∙ counted_same (is_child link state p) (is_child link state' p) place_limit (λ q _. elim (ℕ_discrete q at) [
      | yes e ↦ ap (is_child link state p) e ∙ (was_child p ∙ (not_true (nat_eq (link at).parent p) (λ is. ne (sym (eqb-true (link at).parent p is)))
          ∙ sym (ap (is_child link state' p) e ∙ no_child_now p)))
      | no other ↦ sym (child_same p q other)
    ]))
  ]

  pub forest_left : IsForest link state'
  forest_left = record {
    places = λ p used. f.places p (was p used).1;
    linked = λ p used. elim (f.linked p (was p used).1) [ inl top ↦ inl top | inr more ↦ inr (parent_apart p (was p used).1 more.0, more.1) ];
    short = λ p used. f.short p (was p used).1;
    children = children_left;
    differ = λ a b used_a used_b same. f.differ a b (was a used_a).1 (was b used_b).1 same;
  }

  pub kept_left : IsKept state → IsKept state'
  kept_left k = record {
    used = λ p live. (
        let live_before = sym (r.live_same p) ∙ live in
        r.used_else p (λ e. cc (sym live_before ∙ (ap (λ i. (state i).live) e ∙ r.not_live))) ∙ k.used p live_before);
    zeros = λ p lt dead. r.cdis_same p ∙ k.zeros p lt (sym (r.live_same p) ∙ dead);
  }

  -- every other place but its parent has the use that it had
  pub uses_left : ((p : ℕ) → (state p).used ≡ true → p ≢ at → HasUse (state p)) → (p : ℕ) → (state' p).used ≡ true → p ≢ (link at).parent → HasUse (state' p)
  uses_left uses p used ne = elim (uses p (was p used).1 (was p used).0) [
    | inl live ↦ inl (r.live_same p ∙ live)
    | inr some ↦ inr (let same = r.children_else p ne in omega arith)
  ]

  -- no live place is below it
  pub pruned_more : (first : ℕ → State) → IsKept state → IsPruned link first state → IsPruned link first state'
  pruned_more first k was_pruned = record {
    live_same = λ p. r.live_same p ∙ was_pruned.live_same p;
    cdis_same = λ p. r.cdis_same p ∙ was_pruned.cdis_same p;
    was_used = λ p used. was_pruned.was_used p (was p used).1;
    stays = λ p q steps used live le is. (
        let used_now = was_pruned.stays p q steps used live le is in
        let live_now = was_pruned.live_same q ∙ live in
        r.used_else p (below q steps live_now le p is) ∙ used_now);
  } where
    below : (q steps : ℕ) → (state q).live ≡ true → steps ≤ (link q).depth → (p : ℕ) → up link steps q ≡ p → p ≢ at
    below q zero live le p is e = cc (sym live ∙ (ap (λ i. (state i).live) (is ∙ e) ∙ r.not_live))
    below q (suc steps) live le p is e =
        childless (up link steps q) (up_used link state f steps q (k.used q live) (omega arith)).0 (is ∙ e)
