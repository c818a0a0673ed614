-- What the table and the arena stand for, and what holds of them.
use Rattle.std.specs.Prelude.{ℕ, ◌+◌, ◌≡◌, List, map, length, count_by, nat_eq, if◌then◌else◌, Option, Some, None, IsSome, is_some, Bool, not}
use Rattle.std.specs.List.{starts_with}
use Rattle.dpe_inputs.specs.declared.Cdis.{Cdis}
use Rattle.dpe_inputs.specs.Cdi.{attest_cdi, seal_cdi}
use Rattle.dpe_model.specs.declared.lineage.Birth.{Birth}
use Rattle.dpe_model.specs.State as model
use Rattle.dpe_model.specs.Step.{same_birth}
use Rattle.dpe_handles.specs.declared.row.Row.{Row}
use Rattle.dpe_tree.specs.Tree as tree
use Rattle.dpe_core.specs.Contexts.{Kept}
use Rattle.dpe_core.specs.declared.contexts.Child.{Child}
use Rattle.dpe_core.specs.declared.contexts.Contexts.TheInside.{Inside}

-- the node of each place, while its context is live
abbrev pub Live : Type 0
Live = ℕ → Option tree.Node

abbrev pub birth_of : tree.Birth → Birth
birth_of birth = record { serial = birth.serial; input = birth.input }

abbrev pub births_of : Option tree.Node → List Birth
births_of node = map birth_of (tree.lineage_of node)

-- a row of the table, with the lineage of a node
abbrev pub row_with : Row → Option tree.Node → model.Row
row_with row node = record { handle = row.handle; locality = row.locality; may_derive = row.may_derive; default = row.default; lineage = births_of node }

-- a row of the table, with the lineage of its place
abbrev pub row_of : Live → Row → model.Row
row_of live row = row_with row (live row.place)

abbrev pub rows_of : Live → List Row → List model.Row
rows_of live rows = map (row_of live) rows

-- the row of a child whose context is at a place
abbrev pub row_of_child : Child → ℕ → Row
row_of_child child place = record { handle = child.handle; locality = child.locality; may_derive = child.may_derive; place = place; default = child.default }

-- how many rows have this place
abbrev pub rows_at : List Row → ℕ → ℕ
rows_at rows place = count_by (λ row. nat_eq row.place place) rows

-- the place of each live context is that of one row, and no other place is that of a row
abbrev pub IsOwned : Live → List Row → Type 0
IsOwned live rows = (place : ℕ) → rows_at rows place ≡ (if is_some (live place) then 1 else 0)

-- the same, but for one place more, which is that of a live context
abbrev pub IsOwnedBut : Live → List Row → ℕ → Type 0
IsOwnedBut live rows apart =
    (place : ℕ) → rows_at rows place + (if nat_eq apart place then 1 else 0) ≡ (if is_some (live place) then 1 else 0)

-- contexts end, and none else changes
abbrev pub Ends : Live → Live → Type 0
Ends old new = (place : ℕ) → IsSome (new place) → new place ≡ old place

-- the row's context is neither that of a place nor below it
abbrev pub is_outside : Live → ℕ → Row → Bool
is_outside live place row = not (starts_with same_birth (births_of (live row.place)) (births_of (live place)))

-- the CDIs of a path of births, folded from the seed on
abbrev pub AreFolded : List ℕ → List Birth → Cdis → Type 0
AreFolded seed births cdis =
    (cdis.attest ≡ attest_cdi seed (map (λ birth. birth.input) births)) × (cdis.seal ≡ seal_cdi seed (map (λ birth. birth.input) births))

-- a context that is live has the CDIs of its lineage
abbrev pub IsFolded : List ℕ → Option tree.Node → Type 0
IsFolded seed None = Unit {0}
IsFolded seed (Some node) = AreFolded seed (map birth_of node.lineage) (tree.cdis_or_zeros node.cdis)

-- what holds of each seed's contexts
pub record Keeps (seed : List ℕ) (places : tree.Places) (rows : List Row) : Type 0 where
  pub owned : IsOwned (tree.context places) rows
  pub folded : (place : ℕ) → IsFolded seed (tree.context places place)
  pub many : tree.live_count places ≡ length rows

abbrev pub kept_of : Inside → Kept
kept_of c = record { seed = c.seed; rows = rows_of (tree.context c.tree) c.table }

abbrev pub IsKept : Inside → Type 0
IsKept c = Keeps c.seed c.tree c.table
