-- What ending a context and giving back make of the tree.
use Rattle.std.proofs.Common.{◌≡◌, ℕ, ◌+◌, ◌-◌, ◌<◌, Bool, true, false, if◌then◌else◌, List, ◌++◌, Option, Some, None, IsSome, is_some, length, refl, ap, sym, subst, ◌∙◌, arith, get_or-set_same, get_or-set_other}
use Rattle.dpe_inputs.specs.declared.Cdis.{Cdis}
use Rattle.dpe_tree.specs.declared.node.Link.{Link}
use Rattle.dpe_tree.specs.declared.node.State.{State}
use Rattle.dpe_tree.specs.Tree.{Node, Places, BeginsWith, IsLive, IsUsed, IsNeeded, IsTrimmed, SameElsewhere, context, if_live, lineage, ended, node_at, cdis_of, is_live, live_count, depth_limit}
use Rattle.dpe_tree.specs.Arena.{counted, lineage_from, link_in, state_in, without_cdis, stopped, node_from, nodes, HasUse, HaveUse, HaveUseBut, IsKept, IsBase, IsArena, IsPruned}
use Rattle.dpe_tree.proofs.Counting.{counted_same}
use Rattle.dpe_tree.proofs.Climbing.{up_from_begins, live_below}
use Rattle.dpe_tree.proofs.Viewed.{node_is, length-nodes, live_from, from_live, at_used, used_at, lineage_at, needed_from}
use Rattle.dpe_tree.proofs.Growing.{not_true}
use Rattle.dpe_tree.proofs.Room.{counted_is}
use Rattle.dpe_tree.proofs.Changing.{end_base, end_nodes, end_used, state_else, node_same}
use Rattle.dpe_tree.proofs.Planting.{one_less}

is_some_true : (o : Option Cdis) → is_some o ≡ true → IsSome o
is_some_true (Some d) is = refl
is_some_true None is = cc is

-- the flag tells whether the node is live
flag_is : (link : ℕ → Link) (state : ℕ → State) → IsKept state → (p : ℕ) (b : Bool) → (state p).live ≡ b → is_live (node_from link state p) ≡ (state p).live
flag_is link state k p true live = ap is_some (from_live link state p (k.used p live) live) ∙ sym live
flag_is link state k p false dead =
    not_true (is_live (node_from link state p)) (λ is. cc (sym dead ∙ (live_from link state p (is_some_true (cdis_of (node_from link state p)) is)).1)) ∙ sym dead

no_context : (node : Option Node) → is_live node ≡ false → if_live node ≡ None
no_context node dead = ap (λ b. if b then node else None) dead

module _ (links : List Link) (states : List State) (free : List ℕ) (a : IsArena links states free) (tree : Places) (view : nodes links states ≡ tree)
    (place : ℕ) (live : IsLive tree place) where
  flags : ((state_in states place).used ≡ true) × ((state_in states place).live ≡ true)
  flags =
      let P : Option Node → Type 0 = λ n. IsSome (cdis_of n) in
      live_from (link_in links) (state_in states) place (subst P (ap (λ t. node_at t place) (sym view) ∙ node_is links states place) live)

  pub place_within : place < length states
  place_within = let lt = a.base.forest.places place flags.0 in let l = a.base.states_length in omega arith

  pub base_stopped : IsBase links (stopped states place) free
  base_stopped = end_base links states free a.base place flags.0

  pub used_stopped : (state_in (stopped states place) place).used ≡ true
  used_stopped = end_used links states free a.base place flags.0 place ∙ flags.0

  pub uses_stopped : HaveUseBut (stopped states place) place
  uses_stopped p used_p ne =
      let same = state_else states place (without_cdis (state_in states place)) p ne in
      subst (λ s. HasUse s) (sym same) (a.in_use p (sym (ap (λ (s : State). s.used) same) ∙ used_p))

  view_stopped : nodes links (stopped states place) ≡ ended tree place
  view_stopped = end_nodes links states free a.base place flags.0 ∙ ap (λ t. ended t place) view

  in_tree : place < length tree
  in_tree = let w = place_within in let size = ap length view in omega (arith, length-nodes links states)

  module _ (states' : List State) (free' : List ℕ) (b : IsBase links states' free') (uses : HaveUse states') (pruned : IsPruned (link_in links) (state_in (stopped states place)) (state_in states')) where
    node_kept : (p : ℕ) → (state_in states' p).used ≡ true → node_at (nodes links states') p ≡ node_at (nodes links (stopped states place)) p
    node_kept p used =
        node_is links states' p
        ∙ (node_same (link_in links) (link_in links) (state_in (stopped states place)) (state_in states') p (used ∙ sym (pruned.was_used p used)) (pruned.live_same p) (pruned.cdis_same p) (λ _. refl)
        ∙ sym (node_is links (stopped states place) p))

    live_kept : (p : ℕ) → is_live (node_from (link_in links) (state_in states') p) ≡ is_live (node_from (link_in links) (state_in (stopped states place)) p)
    live_kept p =
        flag_is (link_in links) (state_in states') b.kept p (state_in states' p).live refl
        ∙ (pruned.live_same p ∙ sym (flag_is (link_in links) (state_in (stopped states place)) base_stopped.kept p (state_in (stopped states place) p).live refl))

    count_kept : live_count (nodes links states') ≡ live_count (nodes links (stopped states place))
    count_kept =
        counted_is is_live (node_from (link_in links) (state_in states')) (length states')
        ∙ (ap (counted (λ p. is_live (node_from (link_in links) (state_in states') p))) (b.states_length ∙ sym base_stopped.states_length)
        ∙ (counted_same (λ p. is_live (node_from (link_in links) (state_in states') p)) (λ p. is_live (node_from (link_in links) (state_in (stopped states place)) p)) (length (stopped states place)) (λ p _. live_kept p)
        ∙ sym (counted_is is_live (node_from (link_in links) (state_in (stopped states place))) (length (stopped states place)))))

    pub live_left : live_count tree ≡ live_count (nodes links states') + 1
    live_left =
        let less = one_less tree place (lineage tree place) in_tree live in
        let same = count_kept ∙ ap live_count view_stopped in
        omega arith

    pub arena_left : IsArena links states' free'
    arena_left = record { base = b; in_use = uses; room = (let less = live_left in let most = a.room in let e = ap live_count view in omega arith) }

    context_by : (p : ℕ) (f : Bool) → (state_in states' p).live ≡ f → context (nodes links states') p ≡ context (nodes links (stopped states place)) p
    context_by p true on = ap if_live (node_kept p (b.kept.used p on))
    context_by p false off =
        let now : is_live (node_at (nodes links states') p) ≡ false =
        ap is_live (node_is links states' p) ∙ (flag_is (link_in links) (state_in states') b.kept p (state_in states' p).live refl ∙ off) in
        let before : is_live (node_at (nodes links (stopped states place)) p) ≡ false =
        ap is_live (node_is links (stopped states place) p) ∙ (sym (live_kept p) ∙ (flag_is (link_in links) (state_in states') b.kept p (state_in states' p).live refl ∙ off)) in
        no_context (node_at (nodes links states') p) now ∙ sym (no_context (node_at (nodes links (stopped states place)) p) before)

    context_same : (p : ℕ) → context (nodes links states') p ≡ context (ended tree place) p
    context_same p = context_by p (state_in states' p).live refl ∙ ap (λ t. context t p) view_stopped

    pub gone : context (nodes links states') place ≡ None
    gone = context_same place ∙ ap if_live (get_or-set_same tree place (Some (record { lineage = lineage tree place; cdis = None })) None in_tree)

    pub others : SameElsewhere tree (nodes links states') place
    others p ne = context_same p ∙ ap if_live (get_or-set_other tree place p (Some (record { lineage = lineage tree place; cdis = None })) None ne)

    needed_before : (p : ℕ) → IsUsed (nodes links states') p → IsUsed (nodes links (stopped states place)) p × IsNeeded (nodes links (stopped states place)) p
    needed_before p used_p =
        let used = at_used links states' free' b p used_p in
        let was = pruned.was_used p used in
        let found = live_below (link_in links) (state_in states') b.forest b.kept.used uses depth_limit p used (omega arith) in (
          used_at links (stopped states place) free base_stopped p was,
          needed_from links (stopped states place) free base_stopped p found.0 found.1 was (sym (pruned.live_same found.0) ∙ found.2.0) found.2.1 found.2.2,
        )

    needed_after : (p : ℕ) → IsUsed (nodes links (stopped states place)) p → IsNeeded (nodes links (stopped states place)) p → IsUsed (nodes links states') p
    needed_after p used_p needed =
        let s = stopped states place in
        let used = at_used links s free base_stopped p used_p in
        let q = needed.0 in
        let P : Option Node → Type 0 = λ n. IsSome (cdis_of n) in
        let on = live_from (link_in links) (state_in s) q (subst P (node_is links s q) needed.1) in
        let begins : BeginsWith (lineage_from (link_in links) q) (lineage_from (link_in links) p) =
        (needed.2.0, sym (lineage_at links s free base_stopped q on.0) ∙ (needed.2.1 ∙ ap (λ l. l ++ needed.2.0) (lineage_at links s free base_stopped p used))) in
        let way = up_from_begins (link_in links) (state_in s) base_stopped.forest q p on.0 used begins in
        used_at links states' free' b p (pruned.stays p q ((link_in links q).depth - (link_in links p).depth) used on.1 (omega arith) way.1)

    pub trimmed : IsTrimmed (ended tree place) (nodes links states')
    trimmed =
        let P : Places → Type 0 = λ t. IsTrimmed t (nodes links states') in
        subst P view_stopped (record {
          kept = λ p used_p. node_kept p (at_used links states' free' b p used_p);
          used = λ p. (needed_before p, λ both. needed_after p both.0 both.1);
        })
