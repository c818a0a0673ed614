-- The values of names as the code has them: place by place beside the names.
use Rattle.std.specs.Prelude.{◌≡◌, ℕ, suc, List, [], ◌∷◌, length, replicate, slice_get, Option, Some, None, if◌then◌else◌, option_map, option_and_then, unwrap_or, bytes_eq, All, ◌≤◌}
use Rattle.std.specs.Borrow.{Bor}
use Rattle.dpe_grammar.specs.Values.{texts}
use Rattle.dpe_script.specs.Meaning.{Values}
use Rattle.dpe_script.specs.declared.values.Values as code

-- where a name stands first
abbrev pub place_of : List (List ℕ) → List ℕ → Option ℕ
place_of [] name = None
place_of (n ∷ names) name = if bytes_eq n name then Some 0 else option_map suc (place_of names name)

-- what stands at the place of a name, or a default
abbrev pub found : List ℕ → List (List ℕ) → List (List ℕ) → List ℕ → List ℕ
found d names values name = unwrap_or (option_and_then (slice_get values) (place_of names name)) d

-- the handle and the box of a name, where these stand place by place beside the names
abbrev pub handle_in : List (Bor (List ℕ)) → List (List ℕ) → List ℕ → List ℕ
handle_in names handles = found (replicate 16 0) (texts names) handles

abbrev pub box_in : List (Bor (List ℕ)) → List (List ℕ) → List ℕ → List ℕ
box_in names boxes = found [] (texts names) boxes

abbrev pub handles_of : code.Values → List ℕ → List ℕ
handles_of v = handle_in v.names.handles.items v.handles.items

abbrev pub boxes_of : code.Values → List ℕ → List ℕ
boxes_of v = box_in v.names.boxes.items v.boxes.items

abbrev pub values_of : code.Values → Values
values_of v = record { handles = handles_of v; boxes = boxes_of v }

-- each name has a value
pub record IsTable (v : code.Values) : Type 0 where
  pub handles : length v.handles.items ≡ length v.names.handles.items
  pub boxes : length v.boxes.items ≡ length v.names.boxes.items

-- each box is short enough for a command
abbrev pub AreShort : List (List ℕ) → Type 0
AreShort boxes = All (λ b. length b ≤ 3900) boxes

abbrev pub HasShortBoxes : code.Values → Type 0
HasShortBoxes v = AreShort v.boxes.items

-- each name has a value, and each box is short enough
abbrev pub IsReady : code.Values → Type 0
IsReady v = IsTable v × HasShortBoxes v
