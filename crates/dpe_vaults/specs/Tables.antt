-- The names of a locality, each with the place of the entry whose call put its box.
use Rattle.std.specs.Prelude.{ℕ, ◌<◌, ◌≡◌, List, [], ◌∷◌, ◌++◌, length, map, get_or, Result, Ok, Err}
use Rattle.std.specs.List.{AllByRecursion}
use Rattle.std.specs.declared.cmp.Ordering.TheVariants.{Less, Greater}
use Rattle.dpe_vaults.specs.declared.table.Row.{Row}
use Rattle.dpe_vaults.specs.Named.{Named, named, name_order}
use Rattle.dpe_vaults.specs.Kept.{Called, Pair}

abbrev pub row_of : Row → Named ℕ
row_of r = named r.name r.at

abbrev pub rows_of : List Row → List (Named ℕ)
rows_of rows = map row_of rows

-- the box that the call of an entry put
abbrev pub box_at : List Called → ℕ → List ℕ
box_at es at = get_or (map (λ e. e.call.sealed) es) at []

-- the rows with the boxes in the place of the entries' places
abbrev pub boxed : List Called → List (Named ℕ) → List Pair
boxed es rows = map (λ r. named r.name (box_at es r.value)) rows

-- each place is that of an entry
abbrev pub AreStored : ℕ → List (Named ℕ) → Type 0
AreStored count rows = AllByRecursion (λ r. r.value < count) rows

-- all names come before it, or all after it
abbrev pub AllBefore : List (Named ℕ) → List ℕ → Type 0
AllBefore rows name = AllByRecursion (λ r. name_order r.name name ≡ Less) rows

abbrev pub AllAfter : List (Named ℕ) → List ℕ → Type 0
AllAfter rows name = AllByRecursion (λ r. name_order r.name name ≡ Greater) rows

-- the row at this place has the name
pub record StandsAt (rows : List (Named ℕ)) (name : List ℕ) (at : ℕ) : Type 0 where
  pub before : List (Named ℕ)
  pub row : Named ℕ
  pub behind : List (Named ℕ)
  pub rows_are : rows ≡ before ++ row ∷ behind
  pub place : length before ≡ at
  pub all_before : AllBefore before name
  pub same : row.name ≡ name
  pub all_after : AllAfter behind name

-- no row has the name, and its place would be this one
pub record BelongsAt (rows : List (Named ℕ)) (name : List ℕ) (at : ℕ) : Type 0 where
  pub before : List (Named ℕ)
  pub behind : List (Named ℕ)
  pub rows_are : rows ≡ before ++ behind
  pub place : length before ≡ at
  pub all_before : AllBefore before name
  pub all_after : AllAfter behind name

abbrev pub Seeks : List (Named ℕ) → List ℕ → Result ℕ ℕ → Type 0
Seeks rows name (Ok at) = StandsAt rows name at
Seeks rows name (Err at) = BelongsAt rows name at
