-- A new place in the lists of the arena.
use Rattle.std.proofs.Common.{◌≡◌, ◌≢◌, ℕ, ◌+◌, ◌<◌, true, false, if◌then◌else◌, List, [], ◌∷◌, ◌++◌, Some, None, length, slice_set, refl, ap, sym, ◌∙◌, inl, inr, arith, length-set}
use native.Mathlib.Decide.{ℕ_discrete}
use Rattle.dpe_inputs.specs.declared.Cdis.{Cdis}
use Rattle.dpe_inputs.specs.declared.Input.{Input}
use Rattle.dpe_tree.specs.declared.node.Link.{Link}
use Rattle.dpe_tree.specs.declared.node.State.{State}
use Rattle.dpe_tree.specs.Tree.{Birth, Node, Places, IsFree, place_limit, depth_limit, zero_cdis, is_live, live_count, with_node, node_at}
use Rattle.dpe_tree.specs.Arena.{bit, lineage_from, link_in, state_in, live_with, with_children, node_from, nodes, is_child, HaveUse, HaveUseBut, IsBase}
use Rattle.dpe_tree.proofs.Counting.{counted-le}
use Rattle.dpe_tree.proofs.Viewed.{node_is, nodes_set, length-nodes, from_used, from_unused, live_count_set}
use Rattle.dpe_tree.proofs.Growing.{IsGrown, forest_grown, lineage_same, lineage_here}
use Rattle.dpe_tree.proofs.FreeList.{taken, last_is_free}
use Rattle.dpe_tree.proofs.Changing.{state_here, state_else, link_here, link_else, field_same, node_same}

module _ (links : List Link) (states : List State) (front : List ℕ) (x : ℕ) (b : IsBase links states (front ++ x ∷ []))
    (parent serial : ℕ) (input : Input) (cdis : Cdis) (used : (state_in states parent).used ≡ true) (high : (link_in links parent).depth < depth_limit)
    (unborn : (p : ℕ) (start : List Birth) (birth : Birth) → (state_in states p).used ≡ true → lineage_from (link_in links) p ≡ start ++ birth ∷ [] → birth.serial ≢ serial) where
  abbrev pub linked : List Link
  linked = slice_set links x (record { parent = parent; depth = (link_in links parent).depth + 1; birth = serial; input = input })

  abbrev pub counted_in : List State
  counted_in = slice_set states parent (with_children (state_in states parent) ((state_in states parent).children + 1))

  abbrev pub started : List State
  started = slice_set counted_in x (live_with cdis)

  pub is_free : (x < place_limit) × ((state_in states x).used ≡ false)
  is_free = last_is_free (state_in states) front x b.free_list

  pub apart : parent ≢ x
  apart e = cc (sym used ∙ (ap (λ i. (state_in states i).used) e ∙ is_free.1))

  pub within : (x < length links) × (x < length states) × (parent < length links) × (parent < length states)
  within = let lt = is_free.0 in let p = b.forest.places parent used in let l = b.links_length in let s = b.states_length in (omega arith, omega arith, omega arith, omega arith)

  pub children_fit : (state_in states parent).children + 1 < 4294967296
  children_fit = let all = b.forest.children parent (b.forest.places parent used) in omega (arith, counted-le (is_child (link_in links) (state_in states) parent) place_limit)

  in_counted : x < length counted_in
  in_counted = let w = within in omega (arith, length-set states parent (with_children (state_in states parent) ((state_in states parent).children + 1)))

  start_here : state_in started x ≡ live_with cdis
  start_here = state_here counted_in x (live_with cdis) in_counted

  start_else : (p : ℕ) → p ≢ x → state_in started p ≡ state_in counted_in p
  start_else p ne = state_else counted_in x (live_with cdis) p ne

  counted_used : (p : ℕ) → (state_in counted_in p).used ≡ (state_in states p).used
  counted_used = field_same (λ s. s.used) states parent (with_children (state_in states parent) ((state_in states parent).children + 1)) within.3 refl

  counted_live : (p : ℕ) → (state_in counted_in p).live ≡ (state_in states p).live
  counted_live = field_same (λ s. s.live) states parent (with_children (state_in states parent) ((state_in states parent).children + 1)) within.3 refl

  counted_cdis : (p : ℕ) → (state_in counted_in p).cdis ≡ (state_in states p).cdis
  counted_cdis = field_same (λ s. s.cdis) states parent (with_children (state_in states parent) ((state_in states parent).children + 1)) within.3 refl

  used_else : (p : ℕ) → p ≢ x → (state_in started p).used ≡ (state_in states p).used
  used_else p ne = ap (λ (s : State). s.used) (start_else p ne) ∙ counted_used p

  live_else : (p : ℕ) → p ≢ x → (state_in started p).live ≡ (state_in states p).live
  live_else p ne = ap (λ (s : State). s.live) (start_else p ne) ∙ counted_live p

  cdis_else : (p : ℕ) → p ≢ x → (state_in started p).cdis ≡ (state_in states p).cdis
  cdis_else p ne = ap (λ (s : State). s.cdis) (start_else p ne) ∙ counted_cdis p

  children_parent : (state_in started parent).children ≡ (state_in states parent).children + 1
  children_parent =
      ap (λ (s : State). s.children) (start_else parent apart)
      ∙ ap (λ (s : State). s.children) (state_here states parent (with_children (state_in states parent) ((state_in states parent).children + 1)) within.3)

  children_else : (p : ℕ) → p ≢ x → p ≢ parent → (state_in started p).children ≡ (state_in states p).children
  children_else p ne other =
      ap (λ (s : State). s.children) (start_else p ne)
      ∙ ap (λ (s : State). s.children) (state_else states parent (with_children (state_in states parent) ((state_in states parent).children + 1)) p other)

  grown : IsGrown (link_in links) (state_in states) (link_in linked) (state_in started) x parent serial input
  grown = record {
    within = is_free.0;
    was_free = is_free.1;
    parent_used = used;
    parent_high = high;
    link_here = link_here links x (record { parent = parent; depth = (link_in links parent).depth + 1; birth = serial; input = input }) within.0;
    link_else = λ p ne. link_else links x (record { parent = parent; depth = (link_in links parent).depth + 1; birth = serial; input = input }) p ne;
    used_here = ap (λ (s : State). s.used) start_here;
    used_else = used_else;
    children_here = ap (λ (s : State). s.children) start_here;
    children_parent = children_parent;
    children_else = children_else;
    unborn = unborn;
  }

  kept_used : (p : ℕ) → (state_in started p).live ≡ true → (state_in started p).used ≡ true
  kept_used p live = elim (ℕ_discrete p x) [
    | yes e ↦ ap (λ i. (state_in started i).used) e ∙ ap (λ (s : State). s.used) start_here
    | no ne ↦ used_else p ne ∙ b.kept.used p (sym (live_else p ne) ∙ live)
  ]

  kept_zeros : (p : ℕ) → p < place_limit → (state_in started p).live ≡ false → (state_in started p).cdis ≡ zero_cdis
  kept_zeros p lt dead = elim (ℕ_discrete p x) [
    | yes e ↦ cc (sym dead ∙ (ap (λ i. (state_in started i).live) e ∙ ap (λ (s : State). s.live) start_here))
    | no ne ↦ cdis_else p ne ∙ b.kept.zeros p lt (sym (live_else p ne) ∙ dead)
  ]

  pub grown_base : IsBase linked started front
  grown_base = record {
    links_length = length-set links x (record { parent = parent; depth = (link_in links parent).depth + 1; birth = serial; input = input }) ∙ b.links_length;
    states_length = length-set counted_in x (live_with cdis) ∙ (length-set states parent (with_children (state_in states parent) ((state_in states parent).children + 1)) ∙ b.states_length);
    forest = forest_grown (link_in links) (state_in states) b.forest (link_in linked) (state_in started) x parent serial input grown;
    kept = record { used = kept_used; zeros = kept_zeros };
    free_list = taken (state_in states) (state_in started) front x b.free_list (ap (λ (s : State). s.used) start_here) used_else;
  }

  pub grown_uses : HaveUseBut states parent → HaveUse started
  grown_uses uses p used_p = elim (ℕ_discrete p x) [
    | yes e ↦ inl (ap (λ i. (state_in started i).live) e ∙ ap (λ (s : State). s.live) start_here)
    | no ne ↦ elim (ℕ_discrete p parent) [
      | yes e ↦ inr (
          let more = children_parent in
          let same : (state_in started p).children ≡ (state_in started parent).children = ap (λ i. (state_in started i).children) e in omega arith)
      | no other ↦ elim (uses p (sym (used_else p ne) ∙ used_p) other) [
        | inl live ↦ inl (live_else p ne ∙ live)
        | inr some ↦ inr (let same = children_else p ne other in omega arith)
      ]
    ]
  ]

  pub grown_nodes : nodes linked started ≡ with_node (nodes links states) x (record { lineage = lineage_from (link_in links) parent ++ record { serial = serial; input = input } ∷ []; cdis = Some cdis })
  grown_nodes =
      let node : Node = record { lineage = lineage_from (link_in links) parent ++ record { serial = serial; input = input } ∷ []; cdis = Some cdis } in
      let lines = lineage_here (link_in links) (state_in states) b.forest (link_in linked) (state_in started) x parent serial input grown in
      let here : node_from (link_in linked) (state_in started) x ≡ Some node =
      from_used (link_in linked) (state_in started) x (ap (λ (s : State). s.used) start_here)
      ∙ (λ i. Some (record { lineage = lines i; cdis = if (start_here i).live then Some (start_here i).cdis else None })) in
      nodes_set links linked states started x (Some node)
      (length-set counted_in x (live_with cdis) ∙ length-set states parent (with_children (state_in states parent) ((state_in states parent).children + 1)))
      within.1 here
      (λ p ne. node_same (link_in links) (link_in linked) (state_in states) (state_in started) p (used_else p ne) (live_else p ne) (cdis_else p ne)
      (λ used_p. lineage_same (link_in links) (state_in states) b.forest (link_in linked) (state_in started) x parent serial input grown p used_p))

  pub was_none : node_at (nodes links states) x ≡ None
  was_none = node_is links states x ∙ from_unused (link_in links) (state_in states) x is_free.1

  pub free_there : IsFree (nodes links states) x
  free_there = (let w = within in omega (arith, length-nodes links states), was_none)

-- a live node more
pub one_more : (tree : Places) (x : ℕ) (lineage : List Birth) (cdis : Cdis) → IsFree tree x →
    live_count (with_node tree x (record { lineage = lineage; cdis = Some cdis })) ≡ live_count tree + 1
one_more tree x lineage cdis free =
    let count = live_count_set tree x (Some (record { lineage = lineage; cdis = Some cdis })) free.0 in
    let none : bit (is_live (node_at tree x)) ≡ 0 = ap (λ n. bit (is_live n)) free.1 in
    omega arith

-- a live node less
pub one_less : (tree : Places) (x : ℕ) (lineage : List Birth) → x < length tree → is_live (node_at tree x) ≡ true →
    live_count (with_node tree x (record { lineage = lineage; cdis = None })) + 1 ≡ live_count tree
one_less tree x lineage lt live =
    let count = live_count_set tree x (Some (record { lineage = lineage; cdis = None })) lt in
    let one : bit (is_live (node_at tree x)) ≡ 1 = ap bit live in
    omega arith
