-- What a new child makes of the arena and of the tree, and what is asked before.
use Rattle.std.proofs.Common.{◌≡◌, ◌≢◌, ℕ, ◌+◌, ◌<◌, true, List, [], ◌∷◌, ◌++◌, Option, Some, IsSome, length, take, drop, ap, sym, subst, ◌∙◌, arith}
use Rattle.std.proofs.Math.Seq.{take-append_seam}
use Rattle.dpe_inputs.specs.declared.Cdis.{Cdis}
use Rattle.dpe_inputs.specs.declared.Input.{Input}
use Rattle.dpe_tree.specs.declared.node.Link.{Link}
use Rattle.dpe_tree.specs.declared.node.State.{State}
use Rattle.dpe_tree.specs.Tree.{Birth, Node, Places, IsLive, IsFree, IsUnborn, depth, lineage, child, ended, with_node, node_at, cdis_of, live_count, depth_limit, context_limit}
use Rattle.dpe_tree.specs.Arena.{attached, started, stopped, lineage_from, link_in, state_in, nodes, without_cdis, HasUse, HaveUseBut, IsBase, IsArena}
use Rattle.dpe_tree.proofs.Climbing.{depth_is}
use Rattle.dpe_tree.proofs.Viewed.{node_is, length-nodes, live_from, lineage_at}
use Rattle.dpe_tree.proofs.Room.{some_free}
use Rattle.dpe_tree.proofs.Changing.{end_base, end_nodes, end_used, state_else}
use Rattle.dpe_tree.proofs.Planting.{within, children_fit, grown_base, grown_uses, grown_nodes, free_there, one_more, one_less}

-- what is written back to a vector
pub written : {A : Type 0} (old new : List A) (n : ℕ) → n ≡ length new → take n (new ++ drop (length new) old) ≡ new
written old new n e = ap (λ m. take m (new ++ drop (length new) old)) e ∙ take-append_seam new (drop (length new) old)

module _ (links : List Link) (states : List State) (free : List ℕ) (a : IsArena links states free) (tree : Places) (view : nodes links states ≡ tree)
    (parent : ℕ) (live : IsLive tree parent) (high : depth tree parent < depth_limit) where
  parent_is : ((state_in states parent).used ≡ true) × ((state_in states parent).live ≡ true)
  parent_is =
      let P : Option Node → Type 0 = λ n. IsSome (cdis_of n) in
      live_from (link_in links) (state_in states) parent (subst P (ap (λ t. node_at t parent) (sym view) ∙ node_is links states parent) live)

  lineage_is : lineage tree parent ≡ lineage_from (link_in links) parent
  lineage_is = ap (λ t. lineage t parent) (sym view) ∙ lineage_at links states free a.base parent parent_is.0

  parent_high : (link_in links parent).depth < depth_limit
  parent_high = let e = ap length lineage_is in let d = depth_is (link_in links) (state_in states) a.base.forest parent in omega arith

  pub has_free : 0 < length free
  has_free = some_free links states free a parent parent_is.1 parent_high

-- ## The parent stays

module _ (links : List Link) (states : List State) (front : List ℕ) (x : ℕ) (a : IsArena links states (front ++ x ∷ [])) (tree : Places) (view : nodes links states ≡ tree)
    (parent : ℕ) (live : IsLive tree parent) (high : depth tree parent < depth_limit) (serial : ℕ) (unborn : IsUnborn tree serial) (input : Input) (cdis : Cdis) where
  used : (state_in states parent).used ≡ true
  used = (parent_is links states (front ++ x ∷ []) a tree view parent live high).0

  low : (link_in links parent).depth < depth_limit
  low = parent_high links states (front ++ x ∷ []) a tree view parent live high

  not_born : (p : ℕ) (start : List Birth) (birth : Birth) → (state_in states p).used ≡ true → lineage_from (link_in links) p ≡ start ++ birth ∷ [] → birth.serial ≢ serial
  not_born p start birth used_p ends =
      unborn p start birth (ap (λ t. lineage t p) (sym view) ∙ (lineage_at links states (front ++ x ∷ []) a.base p used_p ∙ ends))

  pub places_within : (parent < length links) × (x < length links) × (parent < length states) × (x < length states)
  places_within =
      let w = within links states front x a.base parent serial input cdis used low not_born in (w.2, w.0, w.3, w.1)

  pub shallow : (link_in links parent).depth < 255
  shallow = let l = low in omega arith

  pub few_children : (state_in states parent).children + 1 < 4294967296
  few_children = children_fit links states front x a.base parent serial input cdis used low not_born

  pub free_place : IsFree tree x
  free_place = subst (λ t. IsFree t x) view (free_there links states front x a.base parent serial input cdis used low not_born)

  pub tree_more : nodes (attached links parent x serial input) (started states parent x cdis) ≡ with_node tree x (child tree parent serial input cdis)
  tree_more =
      let node : List Birth → Node = λ l. record { lineage = l ++ record { serial = serial; input = input } ∷ []; cdis = Some cdis } in
      grown_nodes links states front x a.base parent serial input cdis used low not_born
      ∙ (ap (λ t. with_node t x (node (lineage_from (link_in links) parent))) view
      ∙ ap (λ l. with_node tree x (node l)) (sym (lineage_is links states (front ++ x ∷ []) a tree view parent live high)))

  pub live_more : live_count (nodes (attached links parent x serial input) (started states parent x cdis)) ≡ live_count tree + 1
  live_more = ap live_count tree_more ∙ one_more tree x (lineage tree parent ++ record { serial = serial; input = input } ∷ []) cdis free_place

  pub arena_more : live_count tree < context_limit → IsArena (attached links parent x serial input) (started states parent x cdis) front
  arena_more room = record {
    base = grown_base links states front x a.base parent serial input cdis used low not_born;
    in_use = grown_uses links states front x a.base parent serial input cdis used low not_born (λ p used_p _. a.in_use p used_p);
    room = (let one = live_more in omega arith);
  }

  -- ## The parent's context ends

  base_stopped : IsBase links (stopped states parent) (front ++ x ∷ [])
  base_stopped = end_base links states (front ++ x ∷ []) a.base parent used

  used_stopped : (state_in (stopped states parent) parent).used ≡ true
  used_stopped = end_used links states (front ++ x ∷ []) a.base parent used parent ∙ used

  not_born_stopped : (p : ℕ) (start : List Birth) (birth : Birth) → (state_in (stopped states parent) p).used ≡ true → lineage_from (link_in links) p ≡ start ++ birth ∷ [] → birth.serial ≢ serial
  not_born_stopped p start birth used_p ends = not_born p start birth (sym (end_used links states (front ++ x ∷ []) a.base parent used p) ∙ used_p) ends

  view_stopped : nodes links (stopped states parent) ≡ ended tree parent
  view_stopped = end_nodes links states (front ++ x ∷ []) a.base parent used ∙ ap (λ t. ended t parent) view

  uses_stopped : HaveUseBut (stopped states parent) parent
  uses_stopped p used_p ne =
      let same = state_else states parent (without_cdis (state_in states parent)) p ne in
      subst (λ s. HasUse s) (sym same) (a.in_use p (sym (ap (λ (s : State). s.used) same) ∙ used_p))

  pub tree_instead : nodes (attached links parent x serial input) (started (stopped states parent) parent x cdis) ≡ with_node (ended tree parent) x (child tree parent serial input cdis)
  tree_instead =
      let node : List Birth → Node = λ l. record { lineage = l ++ record { serial = serial; input = input } ∷ []; cdis = Some cdis } in
      grown_nodes links (stopped states parent) front x base_stopped parent serial input cdis used_stopped low not_born_stopped
      ∙ (ap (λ t. with_node t x (node (lineage_from (link_in links) parent))) view_stopped
      ∙ ap (λ l. with_node (ended tree parent) x (node l)) (sym (lineage_is links states (front ++ x ∷ []) a tree view parent live high)))

  free_stopped : IsFree (ended tree parent) x
  free_stopped = subst (λ t. IsFree t x) view_stopped (free_there links (stopped states parent) front x base_stopped parent serial input cdis used_stopped low not_born_stopped)

  pub live_instead : live_count (nodes (attached links parent x serial input) (started (stopped states parent) parent x cdis)) ≡ live_count tree
  live_instead =
      let more = one_more (ended tree parent) x (lineage tree parent ++ record { serial = serial; input = input } ∷ []) cdis free_stopped in
      let w = places_within in
      let size = ap length view in
      let less = one_less tree parent (lineage tree parent) (omega (arith, length-nodes links states)) live in
      let e = ap live_count tree_instead in
      omega arith

  pub arena_instead : IsArena (attached links parent x serial input) (started (stopped states parent) parent x cdis) front
  arena_instead = record {
    base = grown_base links (stopped states parent) front x base_stopped parent serial input cdis used_stopped low not_born_stopped;
    in_use = grown_uses links (stopped states parent) front x base_stopped parent serial input cdis used_stopped low not_born_stopped uses_stopped;
    room = (let same = live_instead in let most = a.room in let e = ap live_count view in omega arith);
  }
