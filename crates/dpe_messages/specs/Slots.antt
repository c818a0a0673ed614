-- The values that were read of a flat map, by their keys.
use Rattle.std.specs.Prelude.{◌≡◌, ℕ, ◌<◌, Bool, List, Option, Some, None, length, slice_index_or, slice_set, nat_lt, ◌&&◌, if◌then◌else◌}
use Rattle.std.specs.Option.{option_map}
use Rattle.std.specs.List.{list_all}
use Rattle.dpe_messages.specs.declared.layers.Found.{Found}
use Rattle.dpe_messages.specs.declared.slots.Slots.{Slots}
use Rattle.dpe_messages.specs.declared.arguments.Argument.{Argument}
use Rattle.dpe_messages.specs.FlatMap.{Value, FlatMap, value_at}
use Rattle.dpe_messages.specs.Found.{view}
use Rattle.dpe_messages.specs.Arguments.{arguments, is_argument, has_required, has_one_of_two}

-- the value in the slot of a key
abbrev pub value_in : Slots → ℕ → Option Value
value_in s key = option_map view (slice_index_or s.values key None)

-- a further pair, in the slot of its key if it has one, and tested
abbrev pub with_pair : List Argument → ℕ → Found → Slots → Slots
with_pair table key value s = record {
  values = if nat_lt key 13 then slice_set s.values key (Some value) else s.values;
  all_in_table = s.all_in_table && is_argument table (key, view value);
}

-- the slots of the keys below 13 have the values of the map, and the pairs of the map were tested
pub record Holds (table : List Argument) (s : Slots) (m : FlatMap) : Type 0 where
  pub len : length s.values ≡ 13
  pub value : (key : ℕ) → key < 13 → value_in s key ≡ value_at key m
  pub tested : s.all_in_table ≡ list_all (is_argument table) m

-- each pair that was read is an argument in its range, and each argument is there as it has to be
abbrev pub is_right_in : List Argument → Slots → Bool
is_right_in table s = s.all_in_table && has_required table (value_in s) && has_one_of_two table (value_in s)

-- the slots were filled from some map, for the command of this number
abbrev pub AreRead : ℕ → Slots → Type 0
AreRead number s = (m : FlatMap) × Holds (arguments number) s m

-- What was read is the map that the decoder gives, up to the rest that was left.
abbrev pub ReadsSlots : List Argument → Option Slots → List ℕ → Option (FlatMap × List ℕ) → Type 0
ReadsSlots table (Some s) rest decoded = (m : FlatMap) × (decoded ≡ Some (m, rest)) × Holds table s m
ReadsSlots table None rest decoded = decoded ≡ None

-- What was read is the number and the map that the decoder gives.
abbrev pub ReadsInner : Option (ℕ × Slots) → Option (ℕ × FlatMap) → Type 0
ReadsInner (Some i) decoded = (m : FlatMap) × (decoded ≡ Some (i.0, m)) × Holds (arguments i.0) i.1 m
ReadsInner None decoded = decoded ≡ None
