-- The bytes of a message: session 0 around a number (of a command, or the code of a reply) and a flat map.
use Rattle.std.specs.Prelude.{ℕ, List, [], ◌∷◌, ◌++◌, Option, Some, None, map as each}
use Rattle.std.specs.Option.{option_map}
use Rattle.std.specs.List.{flat_map}
use Rattle.dpe_cbor.specs.Item.{uint, bytes, map}
use Rattle.dpe_cbor.specs.Encoding.{head, encoding}
use Rattle.dpe_messages.specs.FlatMap.{Value, FlatMap, item_of, pairs_of}
use Rattle.dpe_messages.specs.Layers.{two}
use Rattle.dpe_messages.specs.Found.{view}
use Rattle.dpe_messages.specs.declared.layers.Found.{Found}

-- the encoding of [number, m]
unfoldable pub inner : ℕ → FlatMap → List ℕ
inner number m = encoding (two (uint number) (map (pairs_of m)))

-- the encoding of [0, b], where b is the encoding of [number, m]
unfoldable pub message : ℕ → FlatMap → List ℕ
message number m = encoding (two (uint 0) (bytes (inner number m)))

-- A row of a table: a key, and its value where the pair is there.
abbrev pub Row : Type 0
Row = ℕ × Option Value

abbrev pub pair_of : Row → FlatMap
pair_of row = elim row.1 [ Some v ↦ (row.0, v) ∷ [] | None ↦ [] ]

-- the map that a table of rows gives
abbrev pub present : List Row → FlatMap
present rows = flat_map pair_of rows

-- a row apart from where its value lies in memory
abbrev pub row_of : ℕ × Option Found → Row
row_of row = (row.0, option_map view row.1)

abbrev pub rows_of : List (ℕ × Option Found) → List Row
rows_of rows = each row_of rows

-- the bytes of a pair, or none where it isn't there
abbrev pub row_encoding : ℕ × Option Found → List ℕ
row_encoding row = elim row.1 [ Some v ↦ head 0 row.0 ++ encoding (item_of (view v)) | None ↦ [] ]

abbrev pub rows_encoding : List (ℕ × Option Found) → List ℕ
rows_encoding rows = flat_map row_encoding rows
