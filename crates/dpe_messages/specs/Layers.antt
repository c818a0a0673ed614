-- The two layers of a payload: the session and a byte string, and in that the number of a command (or
-- the code of a reply) and its map.
use Rattle.std.specs.Prelude.{ℕ, ◌≤◌, List}
use Rattle.dpe_cbor.specs.Item.{Item, uint, bytes, array, map, item, no_items}
use Rattle.dpe_cbor.specs.Encoding.{Enc}
use Rattle.dpe_messages.specs.FlatMap.{FlatMap, pairs_of}

-- an array of two items
abbrev pub two : Item → Item → Item
two x y = array (item x (item y no_items))

-- p is the encoding of [session, inner]
abbrev pub IsOuter : List ℕ → ℕ → List ℕ → Type 0
IsOuter p session inner = Enc (two (uint session) (bytes inner)) p

-- b is the encoding of [number, m], where m is a flat map
abbrev pub IsInner : List ℕ → ℕ → FlatMap → Type 0
IsInner b number m = Enc (two (uint number) (map (pairs_of m))) b

-- p is the encoding of [0, inner], and inner that of [number, m] with a flat map m
abbrev pub HasNumber : List ℕ → ℕ → Type 0
HasNumber p number = (inner : List ℕ) × (m : FlatMap) × IsOuter p 0 inner × IsInner inner number m

-- and the number is one of a command
abbrev pub HasCommandNumber : List ℕ → ℕ → Type 0
HasCommandNumber p number = HasNumber p number × (1 ≤ number) × (number ≤ 16)
