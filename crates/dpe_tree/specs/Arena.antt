-- How the arena keeps its places: a link to the parent, what changes while the place is used, and the free places.
use Rattle.std.specs.Prelude.{ℕ, All, nat_lt, suc, zero, ◌+◌, ◌-◌, ◌<◌, ◌≤◌, ◌≡◌, ◌≢◌, ◌⊎◌, ◌&&◌, List, [], ◌∷◌, ◌++◌, Bool, true, false, not, nat_eq, replicate, Option, Some, None, length, map, slice_index_or, slice_set, if◌then◌else◌}
use Rattle.std.specs.List.{range_with_len, list_any, IsDistinct}
use Rattle.dpe_inputs.specs.declared.Cdis.{Cdis}
use Rattle.dpe_inputs.specs.declared.Input.{Input}
use Rattle.dpe_tree.specs.declared.node.Link.{Link}
use Rattle.dpe_tree.specs.declared.node.State.{State}
use Rattle.dpe_tree.specs.Tree.{Birth, Node, Places, place_limit, depth_limit, context_limit, zero_cdis, live_count}

-- what stands past the end of the arena
abbrev pub no_link : Link
no_link = record {
  parent = 0;
  depth = 0;
  birth = 0;
  input = record { code = []; config = []; authority = []; mode = 0; hidden = [] };
}

abbrev pub no_state : State
no_state = record { used = false; live = false; children = 0; cdis = record { attest = []; seal = [] } }

abbrev pub link_in : List Link → ℕ → Link
link_in links place = slice_index_or links place no_link

abbrev pub state_in : List State → ℕ → State
state_in states place = slice_index_or states place no_state

-- ## The tree that they stand for

abbrev pub birth_of : Link → Birth
birth_of link = record { serial = link.birth; input = link.input }

-- so many births up to this place
abbrev pub births : (ℕ → Link) → ℕ → ℕ → List Birth
births link zero place = []
births link (suc many) place = births link many (link place).parent ++ birth_of (link place) ∷ []

abbrev pub lineage_from : (ℕ → Link) → ℕ → List Birth
lineage_from link place = births link (link place).depth place

abbrev pub node_of : Link → List Birth → State → Option Node
node_of link lineage state =
    if state.used
    then Some (record { lineage = lineage; cdis = if state.live then Some state.cdis else None })
    else None

abbrev pub node_from : (ℕ → Link) → (ℕ → State) → ℕ → Option Node
node_from link state place = node_of (link place) (lineage_from link place) (state place)

abbrev pub nodes : List Link → List State → Places
nodes links states = map (node_from (link_in links) (state_in states)) (range_with_len 0 (length states))

-- ## Changes of one place

abbrev pub live_with : Cdis → State
live_with cdis = record { used = true; live = true; children = 0; cdis = cdis }

abbrev pub without_cdis : State → State
without_cdis state = record { used = state.used; live = false; children = state.children; cdis = zero_cdis }

abbrev pub with_children : State → ℕ → State
with_children state many = record { used = state.used; live = state.live; children = many; cdis = state.cdis }

abbrev pub unused : State → State
unused state = record { used = false; live = state.live; children = state.children; cdis = state.cdis }

abbrev pub one_child_more : List State → ℕ → List State
one_child_more states place =
    slice_set states place (with_children (state_in states place) ((state_in states place).children + 1))

abbrev pub one_child_less : List State → ℕ → List State
one_child_less states place =
    slice_set states place (with_children (state_in states place) ((state_in states place).children - 1))

-- the link of the root
abbrev pub top : Link
top = record {
  parent = place_limit;
  depth = 0;
  birth = 0;
  input = record {
    code = replicate 64 0;
    config = replicate 64 0;
    authority = replicate 64 0;
    mode = 0;
    hidden = replicate 64 0;
  };
}

-- the links with a new place below its parent
abbrev pub attached : List Link → ℕ → ℕ → ℕ → Input → List Link
attached links parent place serial input =
    slice_set links place
    (record { parent = parent; depth = (link_in links parent).depth + 1; birth = serial; input = input })

-- the states with a child more of the parent, and the new place live
abbrev pub started : List State → ℕ → ℕ → Cdis → List State
started states parent place cdis = slice_set (one_child_more states parent) place (live_with cdis)

-- the states where the context of a place has ended
abbrev pub stopped : List State → ℕ → List State
stopped states place = slice_set states place (without_cdis (state_in states place))

-- ## What holds of them

-- the place that many steps above
abbrev pub up : (ℕ → Link) → ℕ → ℕ → ℕ
up link zero place = place
up link (suc steps) place = (link (up link steps place)).parent

-- the place is the root, or its parent is used and one step nearer to the root
abbrev pub IsLinked : (ℕ → Link) → (ℕ → State) → Link → Type 0
IsLinked link state at =
    ((at.depth ≡ 0) × (at.parent ≡ place_limit) × (at.input.mode ≡ 0))
    ⊎ (((state at.parent).used ≡ true) × (at.depth ≡ (link at.parent).depth + 1))

abbrev pub is_child : (ℕ → Link) → (ℕ → State) → ℕ → ℕ → Bool
is_child link state parent place = (state place).used && nat_eq (link place).parent parent

abbrev pub bit : Bool → ℕ
bit passes = if passes then 1 else 0

-- how many of the first n numbers pass the test
unfoldable pub counted : (ℕ → Bool) → ℕ → ℕ
counted test zero = 0
counted test (suc n) = bit (test n) + counted test n

-- the used places form a tree, and each knows the number of its children
pub record IsForest (link : ℕ → Link) (state : ℕ → State) : Type 0 where
  pub places : (p : ℕ) → (state p).used ≡ true → p < place_limit
  pub linked : (p : ℕ) → (state p).used ≡ true → IsLinked link state (link p)
  pub short : (p : ℕ) → (state p).used ≡ true → (link p).depth ≤ depth_limit
  pub children : (p : ℕ) → p < place_limit → (state p).children ≡ counted (is_child link state p) place_limit
  pub differ : (a b : ℕ) → (state a).used ≡ true → (state b).used ≡ true →
      lineage_from link a ≡ lineage_from link b → a ≡ b

-- a live place is used, and one that isn't live has zeros
pub record IsKept (state : ℕ → State) : Type 0 where
  pub used : (p : ℕ) → (state p).live ≡ true → (state p).used ≡ true
  pub zeros : (p : ℕ) → p < place_limit → (state p).live ≡ false → (state p).cdis ≡ zero_cdis

-- the free places are those that aren't used, each once
pub record IsFreeList (state : ℕ → State) (free : List ℕ) : Type 0 where
  pub distinct : IsDistinct nat_eq free
  pub places : (p : ℕ) → list_any (nat_eq p) free ≡ true → p < place_limit
  pub unused : (p : ℕ) → p < place_limit → list_any (nat_eq p) free ≡ not (state p).used

-- a used place is live or has a child
abbrev pub HasUse : State → Type 0
HasUse state = (state.live ≡ true) ⊎ (0 < state.children)

-- what holds also between two changes of one call
pub record IsBase (links : List Link) (states : List State) (free : List ℕ) : Type 0 where
  pub links_length : length links ≡ place_limit
  pub states_length : length states ≡ place_limit
  pub forest : IsForest (link_in links) (state_in states)
  pub kept : IsKept (state_in states)
  pub free_list : IsFreeList (state_in states) free

pub record IsArena (links : List Link) (states : List State) (free : List ℕ) : Type 0 where
  pub base : IsBase links states free
  pub in_use : (p : ℕ) → (state_in states p).used ≡ true → HasUse (state_in states p)
  pub room : live_count (nodes links states) ≤ context_limit

-- What giving back leaves: the links, the live contexts, and each place that is live or above a live one.
pub record IsPruned (link : ℕ → Link) (first now : ℕ → State) : Type 0 where
  pub live_same : (p : ℕ) → (now p).live ≡ (first p).live
  pub cdis_same : (p : ℕ) → (now p).cdis ≡ (first p).cdis
  pub was_used : (p : ℕ) → (now p).used ≡ true → (first p).used ≡ true
  pub stays : (p q steps : ℕ) → (first p).used ≡ true → (first q).live ≡ true → steps ≤ (link q).depth →
      up link steps q ≡ p → (now p).used ≡ true

-- each used place but this one has a use
abbrev pub HaveUseBut : List State → ℕ → Type 0
HaveUseBut states place = (p : ℕ) → (state_in states p).used ≡ true → p ≢ place → HasUse (state_in states p)

abbrev pub HaveUse : List State → Type 0
HaveUse states = (p : ℕ) → (state_in states p).used ≡ true → HasUse (state_in states p)

-- ## An empty arena

abbrev pub AreUnused : List State → Type 0
AreUnused states =
    All (λ s. (s.used ≡ false) × (s.live ≡ false) × (s.cdis ≡ zero_cdis) × (s.children ≡ 0)) states

-- these are the numbers below n, each once
pub record AreBelow (places : List ℕ) (n : ℕ) : Type 0 where
  pub distinct : IsDistinct nat_eq places
  pub below : (p : ℕ) → list_any (nat_eq p) places ≡ nat_lt p n
