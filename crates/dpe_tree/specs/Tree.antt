-- What the arena stands for: its places, and the contexts that they hold.
use Rattle.std.specs.Prelude.{ℕ, Bool, if◌then◌else◌, ◌<◌, ◌≤◌, ◌≡◌, ◌↔◌, ◌+◌, ◌*◌, List, [], ◌∷◌, ◌++◌, Option, Some, None, IsSome, is_some, length, count_by, replicate, slice_index_or, slice_set}
use Rattle.dpe_inputs.specs.declared.Input.{Input}
use Rattle.dpe_inputs.specs.declared.Cdis.{Cdis}

-- one derivation on the way from the root: the serial that the child was born with, and the input
pub record Birth : Type 0 where
  pub serial : ℕ
  pub input : Input

-- a used place: the births on the way from the root, and the CDIs while its context is live
pub record Node : Type 0 where
  pub lineage : List Birth
  pub cdis : Option Cdis

-- the node of each place, or None where the place is free
abbrev pub Places : Type 0
Places = List (Option Node)

-- the greatest depth of a context, the most live contexts, and the most places: these contexts at that depth with all
-- places above them, and the root
abbrev pub depth_limit : ℕ
depth_limit = 32

abbrev pub context_limit : ℕ
context_limit = 1024

abbrev pub place_limit : ℕ
place_limit = context_limit * depth_limit + 1

-- ## One place

abbrev pub node_at : Places → ℕ → Option Node
node_at tree place = slice_index_or tree place None

abbrev pub lineage_of : Option Node → List Birth
lineage_of None = []
lineage_of (Some node) = node.lineage

abbrev pub cdis_of : Option Node → Option Cdis
cdis_of None = None
cdis_of (Some node) = node.cdis

abbrev pub lineage : Places → ℕ → List Birth
lineage tree place = lineage_of (node_at tree place)

abbrev pub depth : Places → ℕ → ℕ
depth tree place = length (lineage tree place)

-- the mode of the last input, or m where there is none
abbrev pub last_mode : ℕ → List Birth → ℕ
last_mode m [] = m
last_mode m (birth ∷ births) = last_mode birth.input.mode births

-- the mode of the root is 0, not configured
abbrev pub mode : Places → ℕ → ℕ
mode tree place = last_mode 0 (lineage tree place)

abbrev pub zero_cdis : Cdis
zero_cdis = record { attest = replicate 32 0; seal = replicate 32 0 }

abbrev pub cdis_or_zeros : Option Cdis → Cdis
cdis_or_zeros None = zero_cdis
cdis_or_zeros (Some cdis) = cdis

-- the CDIs of a live context, and zeros for every other place
abbrev pub cdis : Places → ℕ → Cdis
cdis tree place = cdis_or_zeros (cdis_of (node_at tree place))

abbrev pub IsUsed : Places → ℕ → Type 0
IsUsed tree place = IsSome (node_at tree place)

abbrev pub IsLive : Places → ℕ → Type 0
IsLive tree place = IsSome (cdis_of (node_at tree place))

abbrev pub IsFree : Places → ℕ → Type 0
IsFree tree place = (place < length tree) × (node_at tree place ≡ None)

-- ## The whole tree

abbrev pub is_live : Option Node → Bool
is_live node = is_some (cdis_of node)

abbrev pub live_count : Places → ℕ
live_count tree = count_by is_live tree

abbrev pub IsEmpty : Places → Type 0
IsEmpty tree = (place : ℕ) → node_at tree place ≡ None

abbrev pub BeginsWith : List Birth → List Birth → Type 0
BeginsWith long short = (rest : List Birth) × (long ≡ short ++ rest)

-- The place or one below it is live. This is said of used places: the others have no lineage.
abbrev pub IsNeeded : Places → ℕ → Type 0
IsNeeded tree place = (below : ℕ) × IsLive tree below × BeginsWith (lineage tree below) (lineage tree place)

-- this is the last birth of the lineage
abbrev pub EndsWith : List Birth → List Birth → Birth → Type 0
EndsWith long front birth = long ≡ front ++ birth ∷ []

-- no used place has this birth serial
abbrev pub IsUnborn : Places → ℕ → Type 0
IsUnborn tree serial =
    (place : ℕ) (front : List Birth) (birth : Birth) → EndsWith (lineage tree place) front birth →
    ¬ (birth.serial ≡ serial)

-- the place is the child of another, with this birth serial
abbrev pub IsStep : Places → ℕ → ℕ → ℕ → Type 0
IsStep tree place parent serial =
    IsUsed tree parent
    × ((input : Input)
    × EndsWith (lineage tree place) (lineage tree parent) (record { serial = serial; input = input }))

-- a used place has this lineage
abbrev pub HasLineage : Places → List Birth → Type 0
HasLineage tree births = (place : ℕ) × IsUsed tree place × (lineage tree place ≡ births)

-- What holds of each tree. A place is used exactly while it or one below it is live: each used place is needed, and
-- each front of a live place's lineage is that of a used place. No two used places have equal lineages, and a used
-- place has a used parent, unless it is the root.
pub record IsTree (tree : Places) : Type 0 where
  pub places : length tree ≡ place_limit
  pub room : live_count tree ≤ context_limit
  pub short : (place : ℕ) → depth tree place ≤ depth_limit
  pub needed : (place : ℕ) → IsUsed tree place → IsNeeded tree place
  pub fronts : (place : ℕ) (front : List Birth) → IsLive tree place → BeginsWith (lineage tree place) front →
      HasLineage tree front
  pub differ : (a b : ℕ) → IsUsed tree a → IsUsed tree b → lineage tree a ≡ lineage tree b → a ≡ b
  pub parents : (place : ℕ) (front : List Birth) (birth : Birth) → EndsWith (lineage tree place) front birth →
      (parent : ℕ) × IsUsed tree parent × (lineage tree parent ≡ front)

-- ## Changes

abbrev pub root : Cdis → Node
root cdis = record { lineage = []; cdis = Some cdis }

abbrev pub child : Places → ℕ → ℕ → Input → Cdis → Node
child tree parent serial input cdis =
    record { lineage = lineage tree parent ++ record { serial = serial; input = input } ∷ []; cdis = Some cdis }

abbrev pub with_node : Places → ℕ → Node → Places
with_node tree place node = slice_set tree place (Some node)

-- the context of a place isn't live any more, and has no CDIs
abbrev pub ended : Places → ℕ → Places
ended tree place = with_node tree place (record { lineage = lineage tree place; cdis = None })

-- the context of the parent has ended, and its child stands at this place
abbrev pub replaced : Places → ℕ → ℕ → ℕ → Input → Cdis → Places
replaced tree parent place serial input cdis = with_node (ended tree parent) place (child tree parent serial input cdis)

-- The places that no live context needs are given back. All others are as they were.
pub record IsTrimmed (before after : Places) : Type 0 where
  pub kept : (place : ℕ) → IsUsed after place → node_at after place ≡ node_at before place
  pub used : (place : ℕ) → IsUsed after place ↔ (IsUsed before place × IsNeeded before place)

-- ## What a caller knows of its own contexts

abbrev pub if_live : Option Node → Option Node
if_live node = if is_live node then node else None

-- the node of a place while its context is live
abbrev pub context : Places → ℕ → Option Node
context tree place = if_live (node_at tree place)

-- a change at one place leaves every other context as it was
abbrev pub SameElsewhere : Places → Places → ℕ → Type 0
SameElsewhere old new place = (other : ℕ) → ¬ (other ≡ place) → context new other ≡ context old other
