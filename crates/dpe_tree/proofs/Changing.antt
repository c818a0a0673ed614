-- Changes of one place in the lists of the arena.
use Rattle.std.proofs.Common.{◌≡◌, ◌≢◌, ℕ, ◌<◌, Bool, true, false, if◌then◌else◌, List, Option, Some, None, length, slice_set, refl, ap, sym, ◌∙◌, arith, length-set, get_or-set_other, get_or-set_same}
use native.Mathlib.Decide.{ℕ_discrete}
use Rattle.dpe_inputs.specs.declared.Cdis.{Cdis}
use Rattle.dpe_tree.specs.declared.node.Link.{Link}
use Rattle.dpe_tree.specs.declared.node.State.{State}
use Rattle.dpe_tree.specs.Tree.{Birth, Node, place_limit, zero_cdis, ended, lineage}
use Rattle.dpe_tree.specs.Arena.{lineage_from, link_in, no_link, state_in, no_state, without_cdis, node_of, node_from, nodes, IsBase}
use Rattle.dpe_tree.proofs.Viewed.{nodes_set, from_used, lineage_at}
use Rattle.dpe_tree.proofs.Growing.{forest_same}
use Rattle.dpe_tree.proofs.FreeList.{free_same}

-- ## One element of a list

pub state_here : (states : List State) (x : ℕ) (v : State) → x < length states → state_in (slice_set states x v) x ≡ v
state_here states x v lt = get_or-set_same states x v no_state lt

pub state_else : (states : List State) (x : ℕ) (v : State) (p : ℕ) → p ≢ x → state_in (slice_set states x v) p ≡ state_in states p
state_else states x v p ne = get_or-set_other states x p v no_state ne

pub link_here : (links : List Link) (x : ℕ) (v : Link) → x < length links → link_in (slice_set links x v) x ≡ v
link_here links x v lt = get_or-set_same links x v no_link lt

pub link_else : (links : List Link) (x : ℕ) (v : Link) (p : ℕ) → p ≢ x → link_in (slice_set links x v) p ≡ link_in links p
link_else links x v p ne = get_or-set_other links x p v no_link ne

-- what a change leaves of a place stays of every place
pub field_same : {A : Type 0} (F : State → A) (states : List State) (x : ℕ) (v : State) → x < length states → F v ≡ F (state_in states x) →
    (p : ℕ) → F (state_in (slice_set states x v) p) ≡ F (state_in states p)
field_same F states x v lt same p = elim (ℕ_discrete p x) [
  | yes e ↦ ap (λ i. F (state_in (slice_set states x v) i)) e ∙ (ap F (state_here states x v lt) ∙ (same ∙ ap (λ i. F (state_in states i)) (sym e)))
  | no ne ↦ ap F (state_else states x v p ne)
]

-- ## The nodes of a place that changes in nothing that is seen

abbrev node_if : Bool → List Birth → Option Cdis → Option Node
node_if b l c = if b then Some (record { lineage = l; cdis = c }) else None

node_by : (b : Bool) (l l' : List Birth) (c : Option Cdis) → (b ≡ true → l' ≡ l) → node_if b l' c ≡ node_if b l c
node_by true l l' c lines = ap (λ (x : List Birth). node_if true x c) (lines refl)
node_by false l l' c lines = refl

pub node_same : (link link' : ℕ → Link) (state state' : ℕ → State) (p : ℕ) →
    (state' p).used ≡ (state p).used → (state' p).live ≡ (state p).live → (state' p).cdis ≡ (state p).cdis →
    ((state p).used ≡ true → lineage_from link' p ≡ lineage_from link p) → node_from link' state' p ≡ node_from link state p
node_same link link' state state' p used live cdis lines =
    let l' = lineage_from link' p in
    ap (λ b. node_if b l' (if (state' p).live then Some (state' p).cdis else None)) used
    ∙ (ap (λ b. node_if (state p).used l' (if b then Some (state' p).cdis else None)) live
    ∙ (ap (λ d. node_if (state p).used l' (if (state p).live then Some d else None)) cdis
    ∙ node_by (state p).used (lineage_from link p) l' (if (state p).live then Some (state p).cdis else None) lines))

-- ## The end of a context

module _ (links : List Link) (states : List State) (free : List ℕ) (a : IsBase links states free) (place : ℕ) (used : (state_in states place).used ≡ true) where
  within : place < length states
  within = let lt = a.forest.places place used in let l = a.states_length in omega arith

  end : List State
  end = slice_set states place (without_cdis (state_in states place))

  pub end_used : (p : ℕ) → (state_in (slice_set states place (without_cdis (state_in states place))) p).used ≡ (state_in states p).used
  end_used = field_same (λ s. s.used) states place (without_cdis (state_in states place)) within refl

  pub end_children : (p : ℕ) → (state_in (slice_set states place (without_cdis (state_in states place))) p).children ≡ (state_in states p).children
  end_children = field_same (λ s. s.children) states place (without_cdis (state_in states place)) within refl

  pub end_here : state_in (slice_set states place (without_cdis (state_in states place))) place ≡ without_cdis (state_in states place)
  end_here = state_here states place (without_cdis (state_in states place)) within

  end_live : (p : ℕ) → (state_in (slice_set states place (without_cdis (state_in states place))) p).live ≡ true → (state_in states p).live ≡ true
  end_live p live = elim (ℕ_discrete p place) [
    | yes e ↦ cc (sym live ∙ (ap (λ i. (state_in (slice_set states place (without_cdis (state_in states place))) i).live) e ∙ ap (λ (s : State). s.live) end_here))
    | no ne ↦ ap (λ (s : State). s.live) (sym (state_else states place (without_cdis (state_in states place)) p ne)) ∙ live
  ]

  end_zeros : (p : ℕ) → p < place_limit → (state_in (slice_set states place (without_cdis (state_in states place))) p).live ≡ false →
      (state_in (slice_set states place (without_cdis (state_in states place))) p).cdis ≡ zero_cdis
  end_zeros p lt dead = elim (ℕ_discrete p place) [
    | yes e ↦ ap (λ i. (state_in (slice_set states place (without_cdis (state_in states place))) i).cdis) e ∙ ap (λ (s : State). s.cdis) end_here
    | no ne ↦ (
        let same = state_else states place (without_cdis (state_in states place)) p ne in
        ap (λ (s : State). s.cdis) same ∙ a.kept.zeros p lt (ap (λ (s : State). s.live) (sym same) ∙ dead))
  ]

  pub end_base : IsBase links (slice_set states place (without_cdis (state_in states place))) free
  end_base = record {
    links_length = a.links_length;
    states_length = length-set states place (without_cdis (state_in states place)) ∙ a.states_length;
    forest = forest_same (link_in links) (state_in states) (state_in (slice_set states place (without_cdis (state_in states place)))) a.forest end_used end_children;
    kept = record { used = λ p live. end_used p ∙ a.kept.used p (end_live p live); zeros = end_zeros };
    free_list = free_same (state_in states) (state_in (slice_set states place (without_cdis (state_in states place)))) free a.free_list end_used;
  }

  pub end_nodes : nodes links (slice_set states place (without_cdis (state_in states place))) ≡ ended (nodes links states) place
  end_nodes =
      let here : node_from (link_in links) (state_in (slice_set states place (without_cdis (state_in states place)))) place ≡ Some (record { lineage = lineage (nodes links states) place; cdis = None }) =
      from_used (link_in links) (state_in (slice_set states place (without_cdis (state_in states place)))) place (end_used place ∙ used)
      ∙ (λ i. Some (record { lineage = sym (lineage_at links states free a place used) i; cdis = if (end_here i).live then Some (end_here i).cdis else None })) in
      nodes_set links links states (slice_set states place (without_cdis (state_in states place))) place (Some (record { lineage = lineage (nodes links states) place; cdis = None }))
      (length-set states place (without_cdis (state_in states place))) within here
      (λ p ne. ap (λ s. node_of (link_in links p) (lineage_from (link_in links) p) s) (state_else states place (without_cdis (state_in states place)) p ne))
