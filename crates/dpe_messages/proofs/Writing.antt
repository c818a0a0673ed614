-- What several writes, one behind the other, append, and where the whole stands in the room.
use Rattle.std.proofs.Common.{◌≡◌, ℕ, ◌+◌, ◌<◌, List, [], ◌∷◌, ◌++◌, length, take, get_or, Option, Some, None, refl, sym, ap, subst, ◌∙◌, append_assoc, arith, drop, drop-drop, length-append}
use Rattle.std.proofs.lemmas.List.{append-nil, take_more}
use Rattle.std.proofs.lemmas.List.Folds.{length-flat_map-take}
use Rattle.std.proofs.lemmas.Grind.{flat_map-append}
use Rattle.dpe_cbor.specs.Item.{pair_count}
use Rattle.dpe_cbor.specs.Encoding.{head, encoding, pairs_encoding}
use Rattle.dpe_cbor.specs.Written.{written, Appends, Fits}
use Rattle.dpe_cbor.specs.declared.writer.Writer.{Writer}
use Rattle.dpe_messages.specs.FlatMap.{FlatMap, item_of, pairs_of}
use Rattle.dpe_messages.specs.Found.{view}
use Rattle.dpe_messages.specs.Message.{message, inner, pair_of, present, row_of, rows_of, row_encoding, rows_encoding}
use Rattle.dpe_messages.specs.declared.layers.Found.{Found}
use Rattle.dpe_messages.proofs.Decoders.{pair_count-pairs_of}

pub Appends-none : (w : Writer) → Appends w w []
Appends-none w = record {
  written_is = sym (append-nil (written w));
  len_is = omega arith;
  same_room = refl;
  room_len = refl;
  beyond = refl;
}

pub Appends-then : (a b d : Writer) (x y : List ℕ) → Appends a b x → Appends b d y → Appends a d (x ++ y)
Appends-then a b d x y one two = record {
  written_is = two.written_is ∙ ap (λ (w : List ℕ). w ++ y) one.written_is ∙ append_assoc (written a) x y;
  len_is = omega (arith, one.len_is, two.len_is, length-append x y);
  same_room = two.same_room ∙ one.same_room;
  room_len = two.room_len ∙ one.room_len;
  beyond =
      two.beyond
      ∙ ap (λ (n : ℕ). drop n b.room.now) two.len_is ∙ sym (drop-drop (length y) b.len b.room.now)
      ∙ ap (drop (length y)) one.beyond
      ∙ drop-drop (length y) b.len a.room.now ∙ ap (λ (n : ℕ). drop n a.room.now) (sym two.len_is);
}

-- room for two pieces is room for the first, and then for the second
pub room_for_first : (a : Writer) (x y : List ℕ) → Fits a (x ++ y) → Fits a x
room_for_first a x y room = omega (arith, length-append x y)

pub room_for_second : (a b : Writer) (x y : List ℕ) → Fits a (x ++ y) → Appends a b x → Fits b y
room_for_second a b x y room one = omega (arith, length-append x y, one.len_is, one.room_len)

-- the rows up to i, the row at i, and those behind it
pub one_more_row : (rows : List (ℕ × Option Found)) (i : ℕ) (d : ℕ × Option Found) → i < length rows
    → rows_encoding (take (i + 1) rows) ≡ rows_encoding (take i rows) ++ row_encoding (get_or rows i d)
one_more_row rows i d lt =
    ap rows_encoding (take_more rows i d lt)
    ∙ flat_map-append row_encoding (take i rows) (get_or rows i d ∷ [])
    ∙ ap (λ (b : List ℕ). rows_encoding (take i rows) ++ b) (append-nil (row_encoding (get_or rows i d)))

pub room_for_row : (a b : Writer) (rows : List (ℕ × Option Found)) (i : ℕ) (d : ℕ × Option Found) → i < length rows
    → Fits a (rows_encoding rows) → Appends a b (rows_encoding (take i rows)) → Fits b (row_encoding (get_or rows i d))
room_for_row a b rows i d lt room before =
    omega (arith, length-flat_map-take row_encoding rows i d lt, before.len_is, before.room_len)

pub row_appended : (a b d : Writer) (row : ℕ × Option Found) (value : Found) → row.1 ≡ Some value
    → Appends a b (head 0 row.0) → Appends b d (encoding (item_of (view value))) → Appends a d (row_encoding row)
row_appended a b d row value is one two =
    let whole : row_encoding row ≡ head 0 row.0 ++ encoding (item_of (view value)) = ap (λ (v : Option Found). row_encoding (row.0, v)) is in
    subst (Appends a d) (sym whole) (Appends-then a b d (head 0 row.0) (encoding (item_of (view value))) one two)

pub rows_appended : (a b e : Writer) (rows : List (ℕ × Option Found)) (i : ℕ) (d : ℕ × Option Found) → i < length rows
    → Appends a b (rows_encoding (take i rows)) → Appends b e (row_encoding (get_or rows i d)) → Appends a e (rows_encoding (take (i + 1) rows))
rows_appended a b e rows i d lt before one =
    subst (Appends a e) (sym (one_more_row rows i d lt)) (Appends-then a b e (rows_encoding (take i rows)) (row_encoding (get_or rows i d)) before one)

-- ---- the map of a table

pub pairs-append : (m n : FlatMap) → pairs_encoding (pairs_of (m ++ n)) ≡ pairs_encoding (pairs_of m) ++ pairs_encoding (pairs_of n)
pairs-append [] n = refl
pairs-append (e ∷ m) n =
    ap (λ (b : List ℕ). head 0 e.0 ++ (encoding (item_of e.1) ++ b)) (pairs-append m n)
    ∙ ap (λ (b : List ℕ). head 0 e.0 ++ b) (sym (append_assoc (encoding (item_of e.1)) (pairs_encoding (pairs_of m)) (pairs_encoding (pairs_of n))))
    ∙ sym (append_assoc (head 0 e.0) (encoding (item_of e.1) ++ pairs_encoding (pairs_of m)) (pairs_encoding (pairs_of n)))

row_is : (k : ℕ) (v : Option Found) → pairs_encoding (pairs_of (pair_of (row_of (k, v)))) ≡ row_encoding (k, v)
row_is k None = refl
row_is k (Some v) = ap (λ (b : List ℕ). head 0 k ++ b) (append-nil (encoding (item_of (view v))))

pub rows_are : (rows : List (ℕ × Option Found)) → pairs_encoding (pairs_of (present (rows_of rows))) ≡ rows_encoding rows
rows_are [] = refl
rows_are (row ∷ rows) =
    pairs-append (pair_of (row_of row)) (present (rows_of rows))
    ∙ ap (λ (b : List ℕ). b ++ pairs_encoding (pairs_of (present (rows_of rows)))) (row_is row.0 row.1)
    ∙ ap (λ (b : List ℕ). row_encoding row ++ b) (rows_are rows)

pub map_is : (number : ℕ) (m : FlatMap) → inner number m ≡ head 4 2 ++ (head 0 number ++ (head 5 (length m) ++ pairs_encoding (pairs_of m)))
unfolding inner
map_is number m =
    ap (λ (b : List ℕ). head 4 2 ++ (head 0 number ++ b)) (append-nil (head 5 (pair_count (pairs_of m)) ++ pairs_encoding (pairs_of m)))
    ∙ ap (λ (k : ℕ). head 4 2 ++ (head 0 number ++ (head 5 k ++ pairs_encoding (pairs_of m)))) (pair_count-pairs_of m)

pub inner_is : (number : ℕ) (rows : List (ℕ × Option Found))
    → inner number (present (rows_of rows)) ≡ head 4 2 ++ (head 0 number ++ (head 5 (length (present (rows_of rows))) ++ rows_encoding rows))
inner_is number rows =
    let m : FlatMap = present (rows_of rows) in
    map_is number m ∙ ap (λ (b : List ℕ). head 4 2 ++ (head 0 number ++ (head 5 (length m) ++ b))) (rows_are rows)

pub message_is : (number : ℕ) (m : FlatMap) → message number m ≡ head 4 2 ++ (head 0 0 ++ (head 2 (length (inner number m)) ++ inner number m))
unfolding message
message_is number m = ap (λ (b : List ℕ). head 4 2 ++ (head 0 0 ++ b)) (append-nil (head 2 (length (inner number m)) ++ inner number m))

pub length_4 : (a b d e : List ℕ) → length (a ++ (b ++ (d ++ e))) ≡ length a + length b + length d + length e
length_4 a b d e = omega (arith, length-append a (b ++ (d ++ e)), length-append b (d ++ e), length-append d e)

pub inner_length : (number : ℕ) (rows : List (ℕ × Option Found)) (count : ℕ) → count ≡ length (present (rows_of rows))
    → length (inner number (present (rows_of rows))) ≡ length (head 4 2) + length (head 0 number) + length (head 5 count) + length (rows_encoding rows)
inner_length number rows count is =
    ap length (inner_is number rows) ∙ length_4 (head 4 2) (head 0 number) (head 5 (length (present (rows_of rows)))) (rows_encoding rows)
    ∙ ap (λ (n : ℕ). length (head 4 2) + length (head 0 number) + length (head 5 n) + length (rows_encoding rows)) (sym is)

pub message_length : (number : ℕ) (m : FlatMap) (len : ℕ) → len ≡ length (inner number m)
    → length (message number m) ≡ length (head 4 2) + length (head 0 0) + length (head 2 len) + len
message_length number m len is =
    ap length (message_is number m) ∙ length_4 (head 4 2) (head 0 0) (head 2 (length (inner number m))) (inner number m)
    ∙ ap (λ (n : ℕ). length (head 4 2) + length (head 0 0) + length (head 2 n) + n) (sym is)

pub four_appended : (a b d e f : Writer) (w x y z : List ℕ) → Appends a b w → Appends b d x → Appends d e y → Appends e f z → Appends a f (w ++ (x ++ (y ++ z)))
four_appended a b d e f w x y z one two three four =
    Appends-then a b f w (x ++ (y ++ z)) one (Appends-then b d f x (y ++ z) two (Appends-then d e f y z three four))

pub inner_appended : (a b d e f : Writer) (number : ℕ) (rows : List (ℕ × Option Found)) (count : ℕ) → count ≡ length (present (rows_of rows))
    → Appends a b (head 4 2) → Appends b d (head 0 number) → Appends d e (head 5 count) → Appends e f (rows_encoding rows) → Appends a f (inner number (present (rows_of rows)))
inner_appended a b d e f number rows count is one two three four =
    let whole : head 4 2 ++ (head 0 number ++ (head 5 count ++ rows_encoding rows)) ≡ inner number (present (rows_of rows)) =
    ap (λ (n : ℕ). head 4 2 ++ (head 0 number ++ (head 5 n ++ rows_encoding rows))) is ∙ sym (inner_is number rows) in
    subst (Appends a f) whole (four_appended a b d e f (head 4 2) (head 0 number) (head 5 count) (rows_encoding rows) one two three four)

pub message_appended : (a b d e f : Writer) (number : ℕ) (m : FlatMap) (len : ℕ) → len ≡ length (inner number m)
    → Appends a b (head 4 2) → Appends b d (head 0 0) → Appends d e (head 2 len) → Appends e f (inner number m) → Appends a f (message number m)
message_appended a b d e f number m len is one two three four =
    let whole : head 4 2 ++ (head 0 0 ++ (head 2 len ++ inner number m)) ≡ message number m =
    ap (λ (n : ℕ). head 4 2 ++ (head 0 0 ++ (head 2 n ++ inner number m))) is ∙ sym (message_is number m) in
    subst (Appends a f) whole (four_appended a b d e f (head 4 2) (head 0 0) (head 2 len) (inner number m) one two three four)
