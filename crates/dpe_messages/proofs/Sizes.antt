-- How long a message is at most.
use Rattle.std.proofs.Common.{◌≡◌, ℕ, ◌+◌, ◌<◌, ◌≤◌, Bool, true, false, List, [], ◌∷◌, ◌++◌, length, ltb, Option, Some, None, refl, ap, arith, length-append}
use Rattle.std.proofs.lemmas.Bool.{ltb-true, ltb-false}
use Rattle.dpe_cbor.specs.Encoding.{head, encoding, pairs_encoding}
use Rattle.dpe_messages.specs.FlatMap.{Value, number, byte_string, text_string, truth, FlatMap, item_of, pairs_of}
use Rattle.dpe_messages.specs.Message.{Row, pair_of, present, inner, message}
use Rattle.dpe_messages.proofs.Lengths.{head_len_1, head_len_2, head_len_3}
use Rattle.dpe_messages.proofs.Writing.{pairs-append, map_is, message_is, length_4}

pub short_head : (major n : ℕ) → n < 65536 → length (head major n) ≤ 3
short_head major n lt = go (ltb n 24) (ltb n 256) refl refl where
  go : (b d : Bool) → ltb n 24 ≡ b → ltb n 256 ≡ d → length (head major n) ≤ 3
  go true d p q = omega (arith, head_len_1 major n (ltb-true n 24 p))
  go false true p q = omega (arith, head_len_2 major n (ltb-false n 24 p) (ltb-true n 256 q))
  go false false p q = omega (arith, head_len_3 major n (ltb-false n 256 q) lt)

abbrev pub value_size : Value → ℕ
value_size (number n) = 0
value_size (byte_string b) = length b
value_size (text_string t) = length t
value_size (truth b) = 0

abbrev pub IsSmallValue : Value → Type 0
IsSmallValue (number n) = n < 65536
IsSmallValue (byte_string b) = length b < 65536
IsSmallValue (text_string t) = length t < 65536
IsSmallValue (truth b) = Unit {0}

-- the heads of a key and of its value have at most 3 bytes each
abbrev pub row_size : ℕ → Option Value → ℕ
row_size key None = 0
row_size key (Some v) = 6 + value_size v

abbrev pub size : List Row → ℕ
size [] = 0
size (row ∷ rows) = row_size row.0 row.1 + size rows

abbrev pub IsSmallRow : ℕ → Option Value → Type 0
IsSmallRow key None = Unit {0}
IsSmallRow key (Some v) = (key < 65536) × IsSmallValue v

abbrev pub AreSmall : List Row → Type 0
AreSmall [] = Unit {0}
AreSmall (row ∷ rows) = IsSmallRow row.0 row.1 × AreSmall rows

value_fits : (v : Value) → IsSmallValue v → length (encoding (item_of v)) ≤ 3 + value_size v
value_fits (number n) small = omega (arith, short_head 0 n small)
value_fits (byte_string b) small = omega (arith, short_head 2 (length b) small, length-append (head 2 (length b)) b)
value_fits (text_string t) small = omega (arith, short_head 3 (length t) small, length-append (head 3 (length t)) t)
value_fits (truth false) small = omega (arith, short_head 7 20 (omega arith))
value_fits (truth true) small = omega (arith, short_head 7 21 (omega arith))

row_fits : (key : ℕ) (v : Option Value) → IsSmallRow key v → length (pairs_encoding (pairs_of (pair_of (key, v)))) ≤ row_size key v
row_fits key None small = omega arith
row_fits key (Some v) small =
    omega (arith, short_head 0 key small.0, value_fits v small.1, length-append (head 0 key) (encoding (item_of v) ++ []), length-append (encoding (item_of v)) [])

row_count : (key : ℕ) (v : Option Value) → length (pair_of (key, v)) ≤ row_size key v
row_count key None = omega arith
row_count key (Some v) = omega arith

pairs_fit : (rows : List Row) → AreSmall rows → length (pairs_encoding (pairs_of (present rows))) ≤ size rows
pairs_fit [] small = omega arith
pairs_fit (row ∷ rows) small =
    let first = pairs_encoding (pairs_of (pair_of row)) in
    let others = pairs_encoding (pairs_of (present rows)) in
    omega (arith, ap length (pairs-append (pair_of row) (present rows)), length-append first others, row_fits row.0 row.1 small.0, pairs_fit rows small.1)

count_fits : (rows : List Row) → length (present rows) ≤ size rows
count_fits [] = omega arith
count_fits (row ∷ rows) = omega (arith, length-append (pair_of row) (present rows), row_count row.0 row.1, count_fits rows)

pub message_fits : (k : ℕ) (rows : List Row) → k < 65536 → AreSmall rows → size rows ≤ 4072 → length (message k (present rows)) ≤ 4096
message_fits k rows lt small le =
    let m : FlatMap = present rows in
    let body = pairs_encoding (pairs_of m) in
    let count : length m ≤ 4072 = omega (arith, count_fits rows) in
    let map : length (inner k m) ≤ 9 + size rows =
    omega (arith, ap length (map_is k m), length_4 (head 4 2) (head 0 k) (head 5 (length m)) body, short_head 4 2 (omega arith), short_head 0 k lt, short_head 5 (length m) (omega arith), pairs_fit rows small) in
    omega (arith, ap length (message_is k m), length_4 (head 4 2) (head 0 0) (head 2 (length (inner k m))) (inner k m), short_head 4 2 (omega arith), short_head 0 0 (omega arith), short_head 2 (length (inner k m)) (omega arith), map)
