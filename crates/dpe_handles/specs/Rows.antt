-- The rows of a handle table, in ascending order of their serials.
use Rattle.std.specs.Prelude.{◌≡◌, ◌≢◌, ℕ, ◌+◌, ◌*◌, ◌^◌, ◌<◌, ◌≤◌, false, true, if◌then◌else◌, List, Some, length, take, map, replicate, slice_get, slice_index_or, slice_set, All, AllPairs}
use Rattle.std.specs.Int.{w64, from_be_bytes}
use Rattle.dpe_handles.specs.declared.row.Row.{Row}

-- the most rows of a table
abbrev pub row_limit : ℕ
row_limit = 1024

-- how many values a locality has
abbrev pub locality_count : ℕ
locality_count = 256

-- a handle is a serial in 8 bytes, the most significant first, and then 8 random bytes
unfoldable pub serial : List ℕ → ℕ
serial handle = from_be_bytes w64 (take 8 handle)

abbrev pub IsAscending : List Row → Type 0
IsAscending rows = AllPairs (λ a b. serial a.handle < serial b.handle) rows

-- the row at this place has these bytes
abbrev pub HasHandle : List Row → List ℕ → ℕ → Type 0
HasHandle rows handle at = (row : Row) × (slice_get rows at ≡ Some row) × (row.handle ≡ handle)

-- no row has these bytes
abbrev pub HasNoHandle : List Row → List ℕ → Type 0
HasNoHandle rows handle = (at : ℕ) (row : Row) → slice_get rows at ≡ Some row → row.handle ≢ handle

-- the row at this place has this serial
abbrev pub HasSerial : List Row → ℕ → ℕ → Type 0
HasSerial rows at number = (row : Row) × (slice_get rows at ≡ Some row) × (serial row.handle ≡ number)

-- no row but the one at this place has this serial
abbrev pub IsOnlyAt : List Row → ℕ → ℕ → Type 0
IsOnlyAt rows number at = (k : ℕ) (row : Row) → slice_get rows k ≡ Some row → serial row.handle ≡ number → k ≡ at

-- 2 to the number of the serials that were looked at is at least the length, and at most twice the length
abbrev pub HalvingLooks : ℕ → ℕ → ℕ → Type 0
HalvingLooks rows before after = (looks : ℕ) × (after ≡ before + looks) × (rows ≤ 2 ^ looks) × (2 ^ looks ≤ 2 * rows)

-- 2 to the number of the rows that were looked at is at least twice the length, and at most 4 times the length and 2:
-- so they are as many as the length has binary digits, or one more
abbrev pub HalvingSteps : ℕ → ℕ → ℕ → Type 0
HalvingSteps rows before after =
    (steps : ℕ) × (after ≡ before + steps) × (2 * rows ≤ 2 ^ steps) × (2 ^ steps ≤ 4 * rows + 2)

-- ## Defaults

-- the row at this place is marked as the default of this locality
abbrev pub IsDefaultAt : List Row → ℕ → ℕ → Type 0
IsDefaultAt rows locality at =
    (row : Row) × (slice_get rows at ≡ Some row) × (row.default ≡ true) × (row.locality ≡ locality)

-- no row of this locality is marked
abbrev pub HasNoDefault : List Row → ℕ → Type 0
HasNoDefault rows locality =
    (at : ℕ) (row : Row) → slice_get rows at ≡ Some row → row.default ≡ true → row.locality ≢ locality

-- no two marked rows have the same locality
abbrev pub OneDefaultEach : List Row → Type 0
OneDefaultEach rows = AllPairs (λ a b. a.default ≡ true → b.default ≡ true → a.locality ≢ b.locality) rows

-- each marked row of this locality has this serial
abbrev pub IsDefaultSerial : List Row → ℕ → ℕ → Type 0
IsDefaultSerial rows locality number =
    All (λ row. row.default ≡ true → row.locality ≡ locality → serial row.handle ≡ number) rows

-- what is kept for each locality, once this row has come with this serial
abbrev pub with_default : List ℕ → Row → ℕ → List ℕ
with_default defaults row number = if row.default then slice_set defaults row.locality number else defaults

-- ## How a table keeps them

-- what a place past the last slot would have: none is read
abbrev pub no_row : Row
no_row = record { handle = replicate 16 0; locality = 0; may_derive = false; place = 0; default = false }

-- the rows in these slots, in this order
abbrev pub rows_in : List Row → List ℕ → List Row
rows_in rows slots = map (λ slot. slice_index_or rows slot no_row) slots

-- the serials of these rows
abbrev pub serials_of : List Row → List ℕ
serials_of rows = map (λ r. serial r.handle) rows

-- a serial is kept for each locality, and each marked row has the one of its locality
pub record AreKept (rows : List Row) (defaults : List ℕ) : Type 0 where
  pub localities : length defaults ≡ locality_count
  pub marks : All (λ row. row.default ≡ true → serial row.handle ≡ slice_index_or defaults row.locality 0) rows

-- all slots, and a list of their numbers of which the first have the live rows
pub record IsTable (rows : List Row) (order : List ℕ) (live : ℕ) : Type 0 where
  pub ascending : IsAscending (rows_in rows (take live order))
  pub few : live ≤ row_limit
  pub slots : length rows ≡ row_limit
  pub numbers : length order ≡ row_limit
  pub below : All (λ slot. slot < row_limit) order
  pub differ : AllPairs (λ a b. a ≢ b) order
