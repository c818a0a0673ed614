-- The live contexts of one seed, and what a command does to them.
use Rattle.std.specs.Prelude.{ℕ, ◌<◌, ◌≡◌, List, [], ◌∷◌, ◌++◌, All, Bool, true, false, slice_get, Option, Some}
use Rattle.dpe_inputs.specs.declared.Input.{Input}
use Rattle.dpe_inputs.specs.declared.Cdis.{Cdis}
use Rattle.dpe_inputs.specs.Cdi.{attest_cdi, seal_cdi}
use Rattle.dpe_model.specs.State.{Row, path, serial}
use Rattle.dpe_model.specs.Verdict.{row_for, is_taken}
use Rattle.dpe_model.specs.Step.{renamed, taken_out}
use Rattle.dpe_core.specs.declared.contexts.Child.{Child}

-- The rows stand in ascending order of their handles' serials.
pub record Kept : Type 0 where
  pub seed : List ℕ
  pub rows : List Row

-- the same seed, and other rows
abbrev pub with_rows : Kept → List Row → Kept
with_rows kept rows = record { seed = kept.seed; rows = rows }

-- the fact holds of the row at a place, if there is one
abbrev pub Of : List Row → ℕ → (Row → Type 0) → Type 0
Of rows at fact = (row : Row) → slice_get rows at ≡ Some row → fact row

-- the row at this place is the one that a caller at a locality means: the one with the handle, or the default
abbrev pub IsMeantAt : List Row → ℕ → Option (List ℕ) → ℕ → Type 0
IsMeantAt rows locality name at = (row : Row) × (slice_get rows at ≡ Some row) × (row_for rows locality name ≡ Some row)

-- where there is to be a default of this locality, none stands that stays beside it
abbrev pub IsMarkable : List Row → Bool → Bool → ℕ → Row → Type 0
IsMarkable rows default stays locality row = default ≡ true → is_taken rows stays row locality ≡ false

-- the serial is greater than that of each handle
abbrev pub IsAfter : List Row → ℕ → Type 0
IsAfter rows n = All (λ row. serial row.handle < n) rows

-- no context was born with this serial, and none on its path
abbrev pub IsUnborn : List Row → ℕ → Type 0
IsUnborn rows n = All (λ row. All (λ birth. birth.serial < n) row.lineage) rows

-- both CDIs of a row, folded from the seed on
abbrev pub AreCdis : List ℕ → Cdis → Row → Type 0
AreCdis seed cdis row = (cdis.attest ≡ attest_cdi seed (path row)) × (cdis.seal ≡ seal_cdi seed (path row))

-- the child of a row, born with a serial and an input
abbrev pub child_of : Row → Child → ℕ → Input → Row
child_of row child n input = record {
  handle = child.handle;
  locality = child.locality;
  may_derive = child.may_derive;
  default = child.default;
  lineage = row.lineage ++ record { serial = n; input = input } ∷ [];
}

-- a child in the place of a row
abbrev pub derived_from : Kept → Row → Child → ℕ → Input → Kept
derived_from kept row child n input = with_rows kept (taken_out row kept.rows ++ child_of row child n input ∷ [])

-- a child, and the row again under another handle
abbrev pub derived_beside : Kept → Row → Child → ℕ → Input → List ℕ → Kept
derived_beside kept row child n input handle =
    with_rows kept (taken_out row kept.rows ++ child_of row child n input ∷ renamed row handle ∷ [])
