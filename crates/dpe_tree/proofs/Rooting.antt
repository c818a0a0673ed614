-- An empty arena, and its root.
use Rattle.std.proofs.Common.{◌≡◌, ◌≢◌, ℕ, ◌+◌, ◌<◌, ◌||◌, ◌&&◌, not, Bool, true, false, if◌then◌else◌, List, [], ◌∷◌, ◌++◌, Some, None, length, slice_set, nat_eq, nat_lt, refl, ap, sym, ◌∙◌, inl, arith, length-set}
use Rattle.std.specs.List.{IsDistinct}
use Rattle.std.specs.Cmp.{nat_eq_equiv}
use Rattle.std.proofs.lemmas.Bool.{ne_eqb, ltb-true, lt-ltb}
use Rattle.std.proofs.lemmas.Bool.Decides.{nat_tests}
use Rattle.std.proofs.lemmas.List.{get_or_past}
use Rattle.std.proofs.lemmas.List.Elements.{All-get_or}
use Rattle.std.proofs.lemmas.Map.Keys.{IsDistinct-push}
use native.Mathlib.Decide.{ℕ_discrete, dec_lt}
use Rattle.dpe_inputs.specs.declared.Cdis.{Cdis}
use Rattle.dpe_tree.specs.declared.node.Link.{Link}
use Rattle.dpe_tree.specs.declared.node.State.{State}
use Rattle.dpe_tree.specs.Tree.{Places, IsEmpty, IsFree, root, with_node, node_at, is_live, live_count, place_limit, zero_cdis}
use Rattle.dpe_tree.specs.Arena.{counted, top, births, link_in, state_in, no_state, live_with, node_from, nodes, is_child, IsLinked, IsBase, IsArena, AreUnused, AreBelow}
use Rattle.dpe_tree.proofs.Counting.{counted_none}
use Rattle.dpe_tree.proofs.Viewed.{node_is, nodes_set, length-nodes, from_used, from_unused}
use Rattle.dpe_tree.proofs.FreeList.{has_more, taken, last_is_free}
use Rattle.dpe_tree.proofs.Room.{counted_is}
use Rattle.dpe_tree.proofs.Changing.{state_here, state_else, link_here}
use Rattle.dpe_tree.proofs.Planting.{one_more}

-- ## The free places of an empty arena

nothing : IsDistinct nat_eq []
unfolding IsDistinct
nothing = tt

none_lt : (p : ℕ) → false ≡ nat_lt p 0
none_lt p = grind (arith, nat_tests)

pub none_below : AreBelow [] 0
none_below = record { distinct = nothing; below = none_lt }

next_below : (p n : ℕ) → (nat_lt p n || nat_eq p n) ≡ nat_lt p (n + 1)
next_below p n = grind (arith, nat_tests)

self_below : (n : ℕ) → nat_lt n n ≡ false
self_below n = grind (arith, nat_tests)

pub one_more_below : (xs : List ℕ) (n : ℕ) → AreBelow xs n → AreBelow (xs ++ n ∷ []) (n + 1)
one_more_below xs n b = record {
  distinct = IsDistinct-push nat_eq_equiv xs n b.distinct (b.below n ∙ self_below n);
  below = λ p. has_more p n xs ∙ (ap (λ t. t || nat_eq p n) (b.below p) ∙ next_below p n);
}

-- ## An arena with no used place

pub record NoneUsed (state : ℕ → State) : Type 0 where
  pub unused : (p : ℕ) → (state p).used ≡ false
  pub dead : (p : ℕ) → (state p).live ≡ false

contrary : (b : Bool) → b ≡ false → b ≡ true → ⊥
contrary b off on = cc (sym off ∙ on)

module _ (link : ℕ → Link) (state : ℕ → State) (n : NoneUsed state) where
  pub no_children : (p : ℕ) → counted (is_child link state p) place_limit ≡ 0
  no_children p = counted_none (is_child link state p) place_limit (λ q _. ap (λ b. b && nat_eq (link q).parent p) (n.unused q))

module _ (links : List Link) (states : List State) (free : List ℕ) (size : length links ≡ place_limit) (size_states : length states ≡ place_limit) (unused : AreUnused states) (below : AreBelow free place_limit) where
  each : (p : ℕ) → ((state_in states p).used ≡ false) × ((state_in states p).live ≡ false)
  each p = elim (dec_lt p (length states)) [
    | yes lt ↦ (let a = All-get_or (λ (s : State). (s.used ≡ false) × (s.live ≡ false) × (s.cdis ≡ zero_cdis) × (s.children ≡ 0)) states p no_state lt unused in (a.0, a.1))
    | no past ↦ (
        let e = get_or_past states p no_state (omega arith) in
        (ap (λ (s : State). s.used) e, ap (λ (s : State). s.live) e))
  ]

  pub none_used : NoneUsed (state_in states)
  none_used = record { unused = λ p. (each p).0; dead = λ p. (each p).1 }

  zeros : (p : ℕ) → p < place_limit → (state_in states p).live ≡ false → (state_in states p).cdis ≡ zero_cdis
  zeros p lt dead = (All-get_or (λ (s : State). (s.used ≡ false) × (s.live ≡ false) × (s.cdis ≡ zero_cdis) × (s.children ≡ 0)) states p no_state (omega arith) unused).2

  zero_children : (p : ℕ) → p < place_limit → (state_in states p).children ≡ 0
  zero_children p lt = (All-get_or (λ (s : State). (s.used ≡ false) × (s.live ≡ false) × (s.cdis ≡ zero_cdis) × (s.children ≡ 0)) states p no_state (omega arith) unused).3

  pub base_empty : IsBase links states free
  base_empty = record {
    links_length = size;
    states_length = size_states;
    forest = record {
      places = λ p used. absurd (contrary (state_in states p).used (each p).0 used);
      linked = λ p used. absurd (contrary (state_in states p).used (each p).0 used);
      short = λ p used. absurd (contrary (state_in states p).used (each p).0 used);
      children = λ p lt. zero_children p lt ∙ sym (no_children (link_in links) (state_in states) none_used p);
      differ = λ p q used _ _. absurd (contrary (state_in states p).used (each p).0 used);
    };
    kept = record { used = λ p live. absurd (contrary (state_in states p).live (each p).1 live); zeros = zeros };
    free_list = record {
      distinct = below.distinct;
      places = λ p has. ltb-true p place_limit (sym (below.below p) ∙ has);
      unused = λ p lt. below.below p ∙ (lt-ltb p place_limit lt ∙ sym (ap not (each p).0));
    };
  }

  pub empty_nodes : IsEmpty (nodes links states)
  empty_nodes p = node_is links states p ∙ from_unused (link_in links) (state_in states) p (each p).0

  pub no_live : live_count (nodes links states) ≡ 0
  no_live =
      counted_is is_live (node_from (link_in links) (state_in states)) (length states)
      ∙ counted_none (λ p. is_live (node_from (link_in links) (state_in states) p)) (length states) (λ p _. ap is_live (from_unused (link_in links) (state_in states) p (each p).0))

  pub arena_empty : IsArena links states free
  arena_empty = record {
    base = base_empty;
    in_use = λ p used. absurd (contrary (state_in states p).used (each p).0 used);
    room = (let e = no_live in omega arith);
  }

-- ## The root

some_is : (link : ℕ → Link) (state : ℕ → State) (p : ℕ) (b : Bool) → (state p).used ≡ b → node_from link state p ≡ None → (state p).used ≡ false
some_is link state p true used none = cc (sym (from_used link state p used) ∙ none)
some_is link state p false used none = used

module _ (links : List Link) (states : List State) (free : List ℕ) (a : IsArena links states free) (tree : Places) (view : nodes links states ≡ tree) (empty : IsEmpty tree) where
  unused_at : (p : ℕ) → (state_in states p).used ≡ false
  unused_at p = some_is (link_in links) (state_in states) p (state_in states p).used refl (sym (node_is links states p) ∙ (ap (λ t. node_at t p) view ∙ empty p))

  dead_at : (p : ℕ) → (state_in states p).live ≡ false
  dead_at p = dead_by (state_in states p).live (λ live. contrary (state_in states p).used (unused_at p) (a.base.kept.used p live)) where
    dead_by : (b : Bool) → (b ≡ true → ⊥) → b ≡ false
    dead_by true never = absurd (never refl)
    dead_by false never = refl

  pub no_live_yet : live_count tree ≡ 0
  no_live_yet =
      ap live_count (sym view)
      ∙ (counted_is is_live (node_from (link_in links) (state_in states)) (length states)
      ∙ counted_none (λ p. is_live (node_from (link_in links) (state_in states) p)) (length states) (λ p _. ap is_live (from_unused (link_in links) (state_in states) p (unused_at p))))

pub has_free_yet : (links : List Link) (states : List State) (free : List ℕ) (a : IsArena links states free) (tree : Places) (view : nodes links states ≡ tree) (empty : IsEmpty tree) → 0 < length free
has_free_yet links states [] a tree view empty = cc (a.base.free_list.unused 0 (omega arith) ∙ ap not (unused_at links states [] a tree view empty 0))
has_free_yet links states (p ∷ free) a tree view empty = omega arith

module _ (links : List Link) (states : List State) (front : List ℕ) (x : ℕ) (a : IsArena links states (front ++ x ∷ [])) (tree : Places) (view : nodes links states ≡ tree) (empty : IsEmpty tree) (cdis : Cdis) where
  is_free : (x < place_limit) × ((state_in states x).used ≡ false)
  is_free = last_is_free (state_in states) front x a.base.free_list

  pub within_root : (x < length links) × (x < length states)
  within_root = let lt = is_free.0 in let l = a.base.links_length in let s = a.base.states_length in (omega arith, omega arith)

  abbrev links' : List Link
  links' = slice_set links x top

  abbrev states' : List State
  states' = slice_set states x (live_with cdis)

  here : state_in states' x ≡ live_with cdis
  here = state_here states x (live_with cdis) within_root.1

  elsewhere : (p : ℕ) → p ≢ x → state_in states' p ≡ state_in states p
  elsewhere p ne = state_else states x (live_with cdis) p ne

  link_is : link_in links' x ≡ top
  link_is = link_here links x top within_root.0

  only : (p : ℕ) → (state_in states' p).used ≡ true → p ≡ x
  only p used = elim (ℕ_discrete p x) [
    | yes e ↦ e
    | no ne ↦ absurd (contrary (state_in states p).used (unused_at links states (front ++ x ∷ []) a tree view empty p) (ap (λ (s : State). s.used) (sym (elsewhere p ne)) ∙ used))
  ]

  no_child_of : (p : ℕ) → p < place_limit → counted (is_child (link_in links') (state_in states') p) place_limit ≡ 0
  no_child_of p lt = counted_none (is_child (link_in links') (state_in states') p) place_limit (λ q _. elim (ℕ_discrete q x) [
    | yes e ↦ ap (is_child (link_in links') (state_in states') p) e ∙ (ap (λ (s : State). s.used && nat_eq (link_in links' x).parent p) here
        ∙ (ap (λ (l : Link). nat_eq l.parent p) link_is ∙ ne_eqb place_limit p (λ is. omega arith)))
    | no ne ↦ ap (λ (s : State). s.used && nat_eq (link_in links' q).parent p) (elsewhere q ne)
        ∙ ap (λ b. b && nat_eq (link_in links' q).parent p) (unused_at links states (front ++ x ∷ []) a tree view empty q)
  ])

  no_children_of : (p : ℕ) → p < place_limit → (state_in states' p).children ≡ 0
  no_children_of p lt = elim (ℕ_discrete p x) [
    | yes e ↦ ap (λ i. (state_in states' i).children) e ∙ ap (λ (s : State). s.children) here
    | no ne ↦ ap (λ (s : State). s.children) (elsewhere p ne) ∙ (a.base.forest.children p lt
        ∙ no_children (link_in links) (state_in states) (record { unused = unused_at links states (front ++ x ∷ []) a tree view empty; dead = dead_at links states (front ++ x ∷ []) a tree view empty }) p)
  ]

  root_linked : (p : ℕ) → p ≡ x → IsLinked (link_in links') (state_in states') (link_in links' p)
  root_linked p e = inl (
    ap (λ i. (link_in links' i).depth) e ∙ ap (λ (l : Link). l.depth) link_is,
    ap (λ i. (link_in links' i).parent) e ∙ ap (λ (l : Link). l.parent) link_is,
    ap (λ i. (link_in links' i).input.mode) e ∙ ap (λ (l : Link). l.input.mode) link_is,
  )

  pub root_base : IsBase links' states' front
  root_base = record {
    links_length = length-set links x top ∙ a.base.links_length;
    states_length = length-set states x (live_with cdis) ∙ a.base.states_length;
    forest = record {
      places = λ p used. (let e = only p used in let lt = is_free.0 in omega arith);
      linked = λ p used. root_linked p (only p used);
      short = λ p used. (let d : (link_in links' p).depth ≡ 0 = ap (λ i. (link_in links' i).depth) (only p used) ∙ ap (λ (l : Link). l.depth) link_is in omega arith);
      children = λ p lt. no_children_of p lt ∙ sym (no_child_of p lt);
      differ = λ p q used_p used_q _. only p used_p ∙ sym (only q used_q);
    };
    kept = record {
      used = λ p live. elim (ℕ_discrete p x) [
        | yes e ↦ ap (λ i. (state_in states' i).used) e ∙ ap (λ (s : State). s.used) here
        | no ne ↦ absurd (contrary (state_in states p).live (dead_at links states (front ++ x ∷ []) a tree view empty p) (ap (λ (s : State). s.live) (sym (elsewhere p ne)) ∙ live))
      ];
      zeros = λ p lt dead. elim (ℕ_discrete p x) [
        | yes e ↦ cc (sym dead ∙ (ap (λ i. (state_in states' i).live) e ∙ ap (λ (s : State). s.live) here))
        | no ne ↦ ap (λ (s : State). s.cdis) (elsewhere p ne) ∙ a.base.kept.zeros p lt (ap (λ (s : State). s.live) (sym (elsewhere p ne)) ∙ dead)
      ];
    };
    free_list = taken (state_in states) (state_in states') front x a.base.free_list (ap (λ (s : State). s.used) here) (λ p ne. ap (λ (s : State). s.used) (elsewhere p ne));
  }

  pub root_free : IsFree tree x
  root_free = (let w = within_root in let size = ap length view in omega (arith, length-nodes links states), empty x)

  pub root_nodes : nodes (slice_set links x top) (slice_set states x (live_with cdis)) ≡ with_node tree x (root cdis)
  root_nodes =
      let depth_is : (link_in links' x).depth ≡ 0 = ap (λ (l : Link). l.depth) link_is in
      let at_root : node_from (link_in links') (state_in states') x ≡ Some (root cdis) =
      from_used (link_in links') (state_in states') x (ap (λ (s : State). s.used) here)
      ∙ (λ i. Some (record { lineage = births (link_in links') (depth_is i) x; cdis = if (here i).live then Some (here i).cdis else None })) in
      nodes_set links links' states states' x (Some (root cdis)) (length-set states x (live_with cdis)) within_root.1 at_root
      (λ p ne. from_unused (link_in links') (state_in states') p (ap (λ (s : State). s.used) (elsewhere p ne) ∙ unused_at links states (front ++ x ∷ []) a tree view empty p)
      ∙ sym (from_unused (link_in links) (state_in states) p (unused_at links states (front ++ x ∷ []) a tree view empty p)))
      ∙ ap (λ t. with_node t x (root cdis)) view

  pub root_live : live_count (nodes (slice_set links x top) (slice_set states x (live_with cdis))) ≡ 1
  root_live = ap live_count root_nodes ∙ (one_more tree x [] cdis root_free ∙ ap (λ n. n + 1) (no_live_yet links states (front ++ x ∷ []) a tree view empty))

  pub root_arena : IsArena (slice_set links x top) (slice_set states x (live_with cdis)) front
  root_arena = record {
    base = root_base;
    in_use = λ p used. inl (ap (λ i. (state_in states' i).live) (only p used) ∙ ap (λ (s : State). s.live) here);
    room = (let e = root_live in omega arith);
  }
