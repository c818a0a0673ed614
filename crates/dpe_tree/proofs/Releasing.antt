-- One step of giving back, in the lists of the arena.
use Rattle.std.proofs.Common.{◌≡◌, ◌≢◌, ℕ, ◌+◌, ◌-◌, ◌<◌, ◌&&◌, true, false, List, [], ◌∷◌, ◌++◌, length, nat_eq, slice_set, refl, ap, ◌∙◌, inl, inr, arith, eq-eqb, length-set}
use Rattle.dpe_tree.specs.declared.node.Link.{Link}
use Rattle.dpe_tree.specs.declared.node.State.{State}
use Rattle.dpe_tree.specs.Tree.{place_limit}
use Rattle.dpe_tree.specs.Arena.{link_in, state_in, unused, with_children, is_child, HaveUse, HaveUseBut, IsBase, IsPruned}
use Rattle.dpe_tree.proofs.Counting.{counted_pos}
use Rattle.dpe_tree.proofs.Climbing.{parent_is}
use Rattle.dpe_tree.proofs.FreeList.{given, room_to_give}
use Rattle.dpe_tree.proofs.Changing.{state_here, state_else, field_same}
use Rattle.dpe_tree.proofs.Trimming.{IsReleased, forest_left, kept_left, uses_left, pruned_more}

module _ (links : List Link) (first states : List State) (free : List ℕ) (b : IsBase links states free) (pruned : IsPruned (link_in links) (state_in first) (state_in states))
    (at : ℕ) (used : (state_in states at).used ≡ true) (uses : HaveUseBut states at) (dead : (state_in states at).live ≡ false) (none : (state_in states at).children ≡ 0) where
  abbrev pub out : List State
  out = slice_set states at (unused (state_in states at))

  pub within : at < length states
  within = let lt = b.forest.places at used in let l = b.states_length in omega arith

  pub room : length free < place_limit
  room = room_to_give (state_in states) free b.free_list at (b.forest.places at used) used

  out_used : (state_in out at).used ≡ false
  out_used = ap (λ (s : State). s.used) (state_here states at (unused (state_in states at)) within)

  out_else : (p : ℕ) → p ≢ at → (state_in out p).used ≡ (state_in states p).used
  out_else p ne = ap (λ (s : State). s.used) (state_else states at (unused (state_in states at)) p ne)

  out_children : (p : ℕ) → (state_in out p).children ≡ (state_in states p).children
  out_children = field_same (λ s. s.children) states at (unused (state_in states at)) within refl

  out_live : (p : ℕ) → (state_in out p).live ≡ (state_in states p).live
  out_live = field_same (λ s. s.live) states at (unused (state_in states at)) within refl

  out_cdis : (p : ℕ) → (state_in out p).cdis ≡ (state_in states p).cdis
  out_cdis = field_same (λ s. s.cdis) states at (unused (state_in states at)) within refl

  -- what one step leaves
  after : (states' : List State) → length states' ≡ length states → IsReleased (link_in links) (state_in states) (state_in states') at → IsBase links states' (free ++ at ∷ [])
  after states' same r = record {
    links_length = b.links_length;
    states_length = same ∙ b.states_length;
    forest = forest_left (link_in links) (state_in states) (state_in states') b.forest at r;
    kept = kept_left (link_in links) (state_in states) (state_in states') b.forest at r b.kept;
    free_list = given (state_in states) free b.free_list at (b.forest.places at used) used (state_in states') r.used_here r.used_else;
  }

  after_pruned : (states' : List State) → IsReleased (link_in links) (state_in states) (state_in states') at → IsPruned (link_in links) (state_in first) (state_in states')
  after_pruned states' r = pruned_more (link_in links) (state_in states) (state_in states') b.forest at r (state_in first) b.kept pruned

  -- ## The root is given back

  module _ (top : (link_in links at).depth ≡ 0) where
    no_parent : (link_in links at).parent ≡ place_limit
    no_parent = elim (b.forest.linked at used) [ inl r ↦ r.1 | inr r ↦ absurd (let more = r.1 in omega arith) ]

    last_released : IsReleased (link_in links) (state_in states) (state_in out) at
    last_released = record {
      was_used = used;
      not_live = dead;
      no_children = none;
      used_here = out_used;
      used_else = out_else;
      children_parent = λ above. absurd (let lt = b.forest.places (link_in links at).parent above in let e = no_parent in omega arith);
      children_else = λ p _. out_children p;
      live_same = out_live;
      cdis_same = out_cdis;
    }

    pub last_base : IsBase links out (free ++ at ∷ [])
    last_base = after out (length-set states at (unused (state_in states at))) last_released

    pub last_pruned : IsPruned (link_in links) (state_in first) (state_in out)
    last_pruned = after_pruned out last_released

    pub last_uses : HaveUse out
    last_uses p used_p =
        uses_left (link_in links) (state_in states) (state_in out) b.forest at last_released uses p used_p
        (λ e. let lt = last_base.forest.places p used_p in let n = no_parent in omega arith)

  -- ## Another place is given back

  module _ (below : (link_in links at).depth ≢ 0) where
    parent : ℕ
    parent = (link_in links at).parent

    above : ((state_in states (link_in links at).parent).used ≡ true) × ((link_in links at).depth ≡ (link_in links (link_in links at).parent).depth + 1)
    above = parent_is (link_in links) (state_in states) b.forest at used (omega arith)

    parent_apart : (link_in links at).parent ≢ at
    parent_apart e = let more = above.1 in let same : (link_in links (link_in links at).parent).depth ≡ (link_in links at).depth = ap (λ i. (link_in links i).depth) e in omega arith

    pub parent_within : (link_in links at).parent < length out
    parent_within =
        let lt = b.forest.places (link_in links at).parent above.0 in let l = b.states_length in
        omega (arith, length-set states at (unused (state_in states at)))

    pub parent_has : 0 < (state_in out (link_in links at).parent).children
    parent_has =
        let is : is_child (link_in links) (state_in states) (link_in links at).parent at ≡ true =
        ap (λ x. x && nat_eq (link_in links at).parent (link_in links at).parent) used ∙ eq-eqb (link_in links at).parent (link_in links at).parent refl in
        let some = counted_pos (is_child (link_in links) (state_in states) (link_in links at).parent) place_limit at (b.forest.places at used) is in
        let all = b.forest.children (link_in links at).parent (b.forest.places (link_in links at).parent above.0) in
        let same = out_children (link_in links at).parent in
        omega arith

    less : State
    less = with_children (state_in out (link_in links at).parent) ((state_in out (link_in links at).parent).children - 1)

    abbrev pub left : List State
    left = slice_set out (link_in links at).parent (with_children (state_in out (link_in links at).parent) ((state_in out (link_in links at).parent).children - 1))

    left_used : (p : ℕ) → (state_in left p).used ≡ (state_in out p).used
    left_used = field_same (λ s. s.used) out (link_in links at).parent (with_children (state_in out (link_in links at).parent) ((state_in out (link_in links at).parent).children - 1)) parent_within refl

    left_live : (p : ℕ) → (state_in left p).live ≡ (state_in out p).live
    left_live = field_same (λ s. s.live) out (link_in links at).parent (with_children (state_in out (link_in links at).parent) ((state_in out (link_in links at).parent).children - 1)) parent_within refl

    left_cdis : (p : ℕ) → (state_in left p).cdis ≡ (state_in out p).cdis
    left_cdis = field_same (λ s. s.cdis) out (link_in links at).parent (with_children (state_in out (link_in links at).parent) ((state_in out (link_in links at).parent).children - 1)) parent_within refl

    left_children : (state_in left (link_in links at).parent).children + 1 ≡ (state_in states (link_in links at).parent).children
    left_children =
        let here = ap (λ (s : State). s.children) (state_here out (link_in links at).parent (with_children (state_in out (link_in links at).parent) ((state_in out (link_in links at).parent).children - 1)) parent_within) in
        let some = parent_has in
        let same = out_children (link_in links at).parent in
        omega arith

    left_released : IsReleased (link_in links) (state_in states) (state_in left) at
    left_released = record {
      was_used = used;
      not_live = dead;
      no_children = none;
      used_here = left_used at ∙ out_used;
      used_else = λ p ne. left_used p ∙ out_else p ne;
      children_parent = λ _. left_children;
      children_else = λ p ne. ap (λ (s : State). s.children) (state_else out (link_in links at).parent (with_children (state_in out (link_in links at).parent) ((state_in out (link_in links at).parent).children - 1)) p ne) ∙ out_children p;
      live_same = λ p. left_live p ∙ out_live p;
      cdis_same = λ p. left_cdis p ∙ out_cdis p;
    }

    pub left_base : IsBase links left (free ++ at ∷ [])
    left_base =
        after left (length-set out (link_in links at).parent (with_children (state_in out (link_in links at).parent) ((state_in out (link_in links at).parent).children - 1)) ∙ length-set states at (unused (state_in states at))) left_released

    pub left_pruned : IsPruned (link_in links) (state_in first) (state_in left)
    left_pruned = after_pruned left left_released

    pub left_uses : HaveUseBut left (link_in links at).parent
    left_uses p used_p ne = uses_left (link_in links) (state_in states) (state_in left) b.forest at left_released uses p used_p ne

    pub left_parent : ((state_in left (link_in links at).parent).used ≡ true) × ((link_in links (link_in links at).parent).depth < (link_in links at).depth)
    left_parent = let more = above.1 in (left_used (link_in links at).parent ∙ (out_else (link_in links at).parent parent_apart ∙ above.0), omega arith)
