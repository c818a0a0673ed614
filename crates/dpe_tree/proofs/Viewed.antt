-- What the links and states of the arena say of the tree that they stand for.
use Rattle.std.proofs.Common.{◌≡◌, ◌≢◌, ℕ, ◌+◌, ◌<◌, ◌≤◌, Bool, true, false, if◌then◌else◌, List, [], ◌∷◌, ◌++◌, Option, Some, None, IsSome, length, get_or, slice_set, set, refl, ap, sym, subst, ◌∙◌, arith, length-append, length-set, get_or-set_other, get_or-set_same, ext_get_or}
use Rattle.std.proofs.lemmas.List.{get_or_past}
use Rattle.std.proofs.lemmas.List.FromFn.{get_or-map-range_with_len, length-map-range_with_len}
use Rattle.std.proofs.lemmas.List.Sums.{sum_by-set}
use native.Mathlib.Decide.{ℕ_discrete, dec_lt}
use Rattle.dpe_inputs.specs.declared.Cdis.{Cdis}
use Rattle.dpe_tree.specs.declared.node.Link.{Link}
use Rattle.dpe_tree.specs.declared.node.State.{State}
use Rattle.dpe_tree.specs.Tree.{Birth, Node, Places, EndsWith, IsNeeded, IsTree, IsUsed, IsLive, node_at, lineage_of, cdis_of, lineage, depth, is_live, live_count, depth_limit, BeginsWith, HasLineage}
use Rattle.dpe_tree.specs.Arena.{bit, birth_of, lineage_from, link_in, state_in, no_state, node_from, nodes, up, IsBase, IsArena}
use Rattle.dpe_tree.proofs.Climbing.{depth_is, parent_is, lineage_more, begins_up, live_below, same_front, up_used}

-- ## One place

if_some : (b : Bool) (node : Node) → IsSome (if b then Some node else None) → b ≡ true
if_some true node some = refl
if_some false node some = cc some

pub used_from : (link : ℕ → Link) (state : ℕ → State) (p : ℕ) → IsSome (node_from link state p) → (state p).used ≡ true
used_from link state p some = if_some (state p).used _ some

pub from_used : (link : ℕ → Link) (state : ℕ → State) (p : ℕ) → (state p).used ≡ true →
    node_from link state p ≡ Some (record { lineage = lineage_from link p; cdis = if (state p).live then Some (state p).cdis else None })
from_used link state p used =
    ap (λ b. if b then Some (record { lineage = lineage_from link p; cdis = if (state p).live then Some (state p).cdis else None }) else None) used

pub from_unused : (link : ℕ → Link) (state : ℕ → State) (p : ℕ) → (state p).used ≡ false → node_from link state p ≡ None
from_unused link state p unused =
    ap (λ b. if b then Some (record { lineage = lineage_from link p; cdis = if (state p).live then Some (state p).cdis else None }) else None) unused

pub lineage_is : (link : ℕ → Link) (state : ℕ → State) (p : ℕ) → (state p).used ≡ true → lineage_of (node_from link state p) ≡ lineage_from link p
lineage_is link state p used = ap lineage_of (from_used link state p used)

if_live : (b c : Bool) (l : List Birth) (cdis : Cdis) →
    IsSome (cdis_of (if b then Some (record { lineage = l; cdis = if c then Some cdis else None }) else None)) → (b ≡ true) × (c ≡ true)
if_live true true l cdis some = (refl, refl)
if_live true false l cdis some = absurd (cc some)
if_live false c l cdis some = absurd (cc some)

pub live_from : (link : ℕ → Link) (state : ℕ → State) (p : ℕ) → IsSome (cdis_of (node_from link state p)) → ((state p).used ≡ true) × ((state p).live ≡ true)
live_from link state p some = if_live (state p).used (state p).live (lineage_from link p) (state p).cdis some

pub from_live : (link : ℕ → Link) (state : ℕ → State) (p : ℕ) → (state p).used ≡ true → (state p).live ≡ true →
    cdis_of (node_from link state p) ≡ Some (state p).cdis
from_live link state p used live = ap cdis_of (from_used link state p used) ∙ ap (λ b. if b then Some (state p).cdis else None) live

-- ## All places

pub length-nodes : (links : List Link) (states : List State) → length (nodes links states) ≡ length states
length-nodes links states = length-map-range_with_len (node_from (link_in links) (state_in states)) 0 (length states)

pub node_is : (links : List Link) (states : List State) (p : ℕ) → node_at (nodes links states) p ≡ node_from (link_in links) (state_in states) p
node_is links states p = elim (dec_lt p (length states)) [
  | yes within ↦ get_or-map-range_with_len (node_from (link_in links) (state_in states)) 0 (length states) p p None within (omega arith)
  | no past ↦ (
      let none : node_at (nodes links states) p ≡ None = get_or_past (nodes links states) p None (omega (arith, length-nodes links states)) in
      let unused : (state_in states p).used ≡ false = ap (λ (s : State). s.used) (get_or_past states p no_state (omega arith)) in
      none ∙ sym (from_unused (link_in links) (state_in states) p unused))
]

-- where the nodes differ at one place alone
pub nodes_set : (links links' : List Link) (states states' : List State) (x : ℕ) (node : Option Node) →
    length states' ≡ length states → x < length states → node_from (link_in links') (state_in states') x ≡ node →
    ((p : ℕ) → p ≢ x → node_from (link_in links') (state_in states') p ≡ node_from (link_in links) (state_in states) p) →
    nodes links' states' ≡ slice_set (nodes links states) x node
nodes_set links links' states states' x node same_length within here others =
    ext_get_or None (nodes links' states') (set (nodes links states) x node)
    (length-nodes links' states' ∙ (same_length ∙ sym (length-set (nodes links states) x node ∙ length-nodes links states)))
    (λ p lt. elim (ℕ_discrete p x) [
      | yes e ↦ (
          let P : ℕ → Type 0 = λ i. get_or (nodes links' states') i None ≡ get_or (set (nodes links states) x node) i None in
          subst P (sym e) (node_is links' states' x ∙ (here ∙ sym (get_or-set_same (nodes links states) x node None (omega (arith, length-nodes links states))))))
      | no apart ↦ node_is links' states' p ∙ (others p apart ∙ (sym (node_is links states p) ∙ sym (get_or-set_other (nodes links states) x p node None apart)))
    ])

-- the count of live contexts, where one place changes
pub live_count_set : (tree : Places) (x : ℕ) (node : Option Node) → x < length tree →
    live_count (slice_set tree x node) + bit (is_live (node_at tree x)) ≡ live_count tree + bit (is_live node)
live_count_set tree x node within = sum_by-set (λ n. bit (is_live n)) tree x node None within

module _ (links : List Link) (states : List State) (free : List ℕ) (a : IsBase links states free) where
  pub at_used : (p : ℕ) → IsUsed (nodes links states) p → (state_in states p).used ≡ true
  at_used p used = used_from (link_in links) (state_in states) p (subst (λ (n : Option Node). IsSome n) (node_is links states p) used)

  pub used_at : (p : ℕ) → (state_in states p).used ≡ true → IsUsed (nodes links states) p
  used_at p used = subst (λ (n : Option Node). IsSome n) (sym (node_is links states p ∙ from_used (link_in links) (state_in states) p used)) refl

  pub live_at : (p : ℕ) → (state_in states p).live ≡ true → IsLive (nodes links states) p
  live_at p live =
      subst (λ (c : Option Cdis). IsSome c) (sym (ap cdis_of (node_is links states p) ∙ from_live (link_in links) (state_in states) p (a.kept.used p live) live)) refl

  pub lineage_at : (p : ℕ) → (state_in states p).used ≡ true → lineage (nodes links states) p ≡ lineage_from (link_in links) p
  lineage_at p used = ap lineage_of (node_is links states p) ∙ lineage_is (link_in links) (state_in states) p used

  pub none_at : (p : ℕ) → (state_in states p).used ≡ false → lineage (nodes links states) p ≡ []
  none_at p unused = ap lineage_of (node_is links states p ∙ from_unused (link_in links) (state_in states) p unused)

  -- a live place below is what a place is needed by
  pub needed_from : (p q steps : ℕ) → (state_in states p).used ≡ true → (state_in states q).live ≡ true → steps ≤ (link_in links q).depth → up (link_in links) steps q ≡ p →
      IsNeeded (nodes links states) p
  needed_from p q steps used live le is =
      let used_q = a.kept.used q live in
      let begins = begins_up (link_in links) (state_in states) a.forest steps q used_q le in (
        q,
        live_at q live,
        (begins.0, lineage_at q used_q ∙ (begins.1 ∙ ap (λ front. front ++ begins.0) (ap (lineage_from (link_in links)) is ∙ sym (lineage_at p used)))),
      )

module _ (links : List Link) (states : List State) (free : List ℕ) (a : IsArena links states free) where
  short_by : (p : ℕ) (b : Bool) → (state_in states p).used ≡ b → depth (nodes links states) p ≤ depth_limit
  short_by p true used =
      let is = ap length (lineage_at links states free a.base p used) in
      let low = a.base.forest.short p used in
      omega (arith, depth_is (link_in links) (state_in states) a.base.forest p)
  short_by p false unused = let is = ap length (none_at links states free a.base p unused) in omega arith

  needed_by : (p : ℕ) → (state_in states p).used ≡ true → IsNeeded (nodes links states) p
  needed_by p used =
      let b = live_below (link_in links) (state_in states) a.base.forest a.base.kept.used a.in_use depth_limit p used (omega arith) in
      needed_from links states free a.base p b.0 b.1 used b.2.0 b.2.1 b.2.2

  parent_by : (p : ℕ) (b : Bool) (front : List Birth) (birth : Birth) → (state_in states p).used ≡ b → EndsWith (lineage (nodes links states) p) front birth →
      (parent : ℕ) × IsUsed (nodes links states) parent × (lineage (nodes links states) parent ≡ front)
  parent_by p true front birth used ends =
      let link = link_in links in
      let state = state_in states in
      let whole : lineage_from link p ≡ front ++ birth ∷ [] = sym (lineage_at links states free a.base p used) ∙ ends in
      let size = ap length whole in
      let deep = depth_is link state a.base.forest p in
      let above = parent_is link state a.base.forest p used (omega (arith, length-append front (birth ∷ []))) in
      let parent = (link p).parent in
      let more = above.1 in
      let deep_above = depth_is link state a.base.forest parent in
      let same = same_front (lineage_from link parent) front (birth_of (link p) ∷ []) (birth ∷ [])
      (sym (lineage_more link state a.base.forest p above.1) ∙ whole) (omega (arith, length-append front (birth ∷ []))) in
      (parent, used_at links states free a.base parent above.0, lineage_at links states free a.base parent above.0 ∙ same)
  parent_by p false front birth unused ends =
      absurd (let size : 0 ≡ length (front ++ birth ∷ []) = ap length (sym (none_at links states free a.base p unused) ∙ ends) in omega (arith, length-append front (birth ∷ [])))

  front_by : (p : ℕ) (front : List Birth) → IsLive (nodes links states) p → BeginsWith (lineage (nodes links states) p) front → HasLineage (nodes links states) front
  front_by p front live begins =
      let link = link_in links in
      let state = state_in states in
      let P : Option Node → Type 0 = λ n. IsSome (cdis_of n) in
      let used = (live_from link state p (subst P (node_is links states p) live)).0 in
      let whole : lineage_from link p ≡ front ++ begins.0 = sym (lineage_at links states free a.base p used) ∙ begins.1 in
      let size = ap length whole in
      let deep = depth_is link state a.base.forest p in
      let steps = length begins.0 in
      let above = up_used link state a.base.forest steps p used (omega (arith, length-append front begins.0)) in
      let at_depth = above.1 in
      let at = up link steps p in
      let deep_at = depth_is link state a.base.forest at in
      let way = begins_up link state a.base.forest steps p used (omega (arith, length-append front begins.0)) in
      let same = same_front (lineage_from link at) front way.0 begins.0 (sym way.1 ∙ whole) (omega (arith, length-append front begins.0)) in
      (at, used_at links states free a.base at above.0, lineage_at links states free a.base at above.0 ∙ same)

  pub tree_is : IsTree (nodes links states)
  tree_is = record {
    places = length-nodes links states ∙ a.base.states_length;
    room = a.room;
    short = λ p. short_by p (state_in states p).used refl;
    needed = λ p used. needed_by p (at_used links states free a.base p used);
    fronts = front_by;
    differ = λ p q used_p used_q same. (
        let p_is = at_used links states free a.base p used_p in
        let q_is = at_used links states free a.base q used_q in
        a.base.forest.differ p q p_is q_is (sym (lineage_at links states free a.base p p_is) ∙ (same ∙ lineage_at links states free a.base q q_is)));
    parents = λ p front birth ends. parent_by p (state_in states p).used front birth refl ends;
  }
