-- The parts of a journal as fields, and how far bytes go of a part that may stand there.
use Rattle.std.proofs.Common.{◌≡◌, ℕ, zero, suc, ◌+◌, ◌<◌, ◌≤◌, ◌^◌, ◌⊎◌, inl, inr, List, [], ◌∷◌, ◌++◌, length, get_or, take, drop, map, refl, ap, sym, ◌∙◌, subst, arith, append-nil, take-append-drop, replicate}
use Rattle.std.specs.Int.{to_be_bytes, from_be_bytes, byte_at, bytes_high_first, w32, w64}
use Rattle.std.proofs.lemmas.List.{length-append, length-take, length-drop, drop-drop}
use Rattle.std.proofs.lemmas.Nat.{be_bytes_4, be_bytes_8}
use Rattle.dpe_cbor.specs.Decoding.{AreBytes}
use Rattle.dpe_model.specs.History.{Entry, IsEntry}
use Rattle.dpe_journal.specs.Journal.{packet, numbers, header_bytes, record_bytes, end_bytes}
use Rattle.dpe_journal.specs.Stages.{header, entry, closing, at_front, behind, over, IsPart, IsHeader, IsRecord}
use Rattle.dpe_journal.specs.Fields.{IsField, AreFields, Judged, BeginsNo, BeginsShort, Words, lengthened}
use Rattle.dpe_journal.specs.declared.fields.Field.{Field}
use Rattle.dpe_journal.specs.declared.fields.Field.TheVariants.{Exact, AtMost, Free, Packet}
use Rattle.dpe_journal.specs.declared.fields.Front.{Front}
use Rattle.dpe_journal.specs.declared.fields.Front.TheVariants.{Whole, Short, Wrong}
use Rattle.dpe_journal.proofs.Bytes.{AreBytes-append, AreBytes-take, AreBytes-drop, AreBytes-zeros}

-- ---- numbers in bytes

byte_small : (k n : ℕ) → byte_at k n < 256
byte_small zero n = omega arith
byte_small (suc k) n = omega arith

pub be_are_bytes : (k n : ℕ) → AreBytes (bytes_high_first k n)
be_are_bytes zero n i = omega arith
be_are_bytes (suc k) n zero = byte_small k n
be_are_bytes (suc k) n (suc i) = be_are_bytes k n i

below_32 : (b : List ℕ) → AreBytes b → from_be_bytes w32 b < 2 ^ 32
below_32 b ok = omega (arith, ok 0, ok 1, ok 2, ok 3)

below_64 : (b : List ℕ) → AreBytes b → from_be_bytes w64 b < 2 ^ 64
below_64 b ok = omega (arith, ok 0, ok 1, ok 2, ok 3, ok 4, ok 5, ok 6, ok 7)

-- ---- fields put together and taken apart

module _ (fs : List Field) where
  more : (f : Field) (u v : List ℕ) → IsField f u → AreFields fs v → AreFields (f ∷ fs) (u ++ v)
  more f u v is are = (u, v, is, are, refl)

  exact_more : (x : ℕ) (v : List ℕ) → AreFields fs v → AreFields (Exact x ∷ fs) (x ∷ v)
  exact_more x v are = (x ∷ [], v, refl, are, refl)

  exact_rest : (x : ℕ) (b : List ℕ) → AreFields (Exact x ∷ fs) b → (v : List ℕ) × AreFields fs v × (b ≡ x ∷ v)
  exact_rest x b (u, v, is, are, whole) = (v, are, whole ∙ ap (λ (t : List ℕ). t ++ v) is)

last_more : (f : Field) (u : List ℕ) → IsField f u → AreFields (f ∷ []) u
last_more f u is = (u, [], is, refl, sym (append-nil u))

last_rest : (f : Field) (b : List ℕ) → AreFields (f ∷ []) b → IsField f b
last_rest f b (u, v, is, none, whole) = subst (IsField f) (sym (whole ∙ ap (λ (t : List ℕ). u ++ t) none ∙ append-nil u)) is

-- bytes that are all told
exacts : (xs b : List ℕ) → b ≡ xs → AreFields (map Exact xs) b
exacts [] b e = e
exacts (x ∷ xs) b e = subst (AreFields (Exact x ∷ map Exact xs)) (sym e) (exact_more (map Exact xs) x xs (exacts xs xs refl))

exacts_are : (xs b : List ℕ) → AreFields (map Exact xs) b → b ≡ xs
exacts_are [] b are = are
exacts_are (x ∷ xs) b are =
    let r = exact_rest (map Exact xs) x b are in
    r.2 ∙ ap (λ (t : List ℕ). x ∷ t) (exacts_are xs r.0 r.1)

pub all_told : (xs : List ℕ) → Words (λ b. b ≡ xs) (map Exact xs)
all_told xs b = (exacts xs b, exacts_are xs b)

header_of : (b : List ℕ) → length b ≡ 8 → AreBytes b → IsHeader (68 ∷ 80 ∷ 69 ∷ 74 ∷ 1 ∷ b)
header_of b long ok = (
  from_be_bytes w64 b,
  below_64 b ok,
  ap (λ (t : List ℕ). 68 ∷ 80 ∷ 69 ∷ 74 ∷ 1 ∷ t) (sym (be_bytes_8 b (from_be_bytes w64 b) long ok refl)),
)

header_made : (first : ℕ) → AreFields (Exact 68 ∷ Exact 80 ∷ Exact 69 ∷ Exact 74 ∷ Exact 1 ∷ Free 8 ∷ []) (header_bytes first)
header_made first =
    let serial = last_more (Free 8) (to_be_bytes w64 first) (refl, be_are_bytes 8 first) in
    let v = exact_more (Free 8 ∷ []) 1 (to_be_bytes w64 first) serial in
    let j = exact_more (Exact 1 ∷ Free 8 ∷ []) 74 (1 ∷ to_be_bytes w64 first) v in
    let e = exact_more (Exact 74 ∷ Exact 1 ∷ Free 8 ∷ []) 69 (74 ∷ 1 ∷ to_be_bytes w64 first) j in
    let p = exact_more (Exact 69 ∷ Exact 74 ∷ Exact 1 ∷ Free 8 ∷ []) 80 (69 ∷ 74 ∷ 1 ∷ to_be_bytes w64 first) e in
    exact_more (Exact 80 ∷ Exact 69 ∷ Exact 74 ∷ Exact 1 ∷ Free 8 ∷ []) 68 (80 ∷ 69 ∷ 74 ∷ 1 ∷ to_be_bytes w64 first) p

pub header_words : Words IsHeader (Exact 68 ∷ Exact 80 ∷ Exact 69 ∷ Exact 74 ∷ Exact 1 ∷ Free 8 ∷ [])
header_words b = (
  λ is. subst (AreFields (Exact 68 ∷ Exact 80 ∷ Exact 69 ∷ Exact 74 ∷ Exact 1 ∷ Free 8 ∷ [])) (sym is.2)
      (header_made is.0),
  λ are.
      let d = exact_rest (Exact 80 ∷ Exact 69 ∷ Exact 74 ∷ Exact 1 ∷ Free 8 ∷ []) 68 b are in
      let p = exact_rest (Exact 69 ∷ Exact 74 ∷ Exact 1 ∷ Free 8 ∷ []) 80 d.0 d.1 in
      let e = exact_rest (Exact 74 ∷ Exact 1 ∷ Free 8 ∷ []) 69 p.0 p.1 in
      let j = exact_rest (Exact 1 ∷ Free 8 ∷ []) 74 e.0 e.1 in
      let v = exact_rest (Free 8 ∷ []) 1 j.0 j.1 in
      let serial = last_rest (Free 8) v.0 v.1 in
      let whole : b ≡ 68 ∷ 80 ∷ 69 ∷ 74 ∷ 1 ∷ v.0 =
      d.2 ∙ ap (λ (x : List ℕ). 68 ∷ x) (p.2 ∙ ap (λ (x : List ℕ). 80 ∷ x) (e.2 ∙ ap (λ (x : List ℕ). 69 ∷ x) (j.2 ∙ ap (λ (x : List ℕ). 74 ∷ x) v.2))) in
      subst IsHeader (sym whole) (header_of v.0 serial.0 serial.1),
)

-- twelve bytes are the three numbers that they spell
numbers_are : (b : List ℕ) → length b ≡ 12 → AreBytes b
    → to_be_bytes w32 (from_be_bytes w32 (take 4 b)) ++ (to_be_bytes w32 (from_be_bytes w32 (take 4 (drop 4 b))) ++ to_be_bytes w32 (from_be_bytes w32 (drop 8 b))) ≡ b
numbers_are b long ok =
    let caller = be_bytes_4 (take 4 b) (from_be_bytes w32 (take 4 b)) (omega (arith, length-take 4 b)) (AreBytes-take 4 b ok) refl in
    let connection = be_bytes_4 (take 4 (drop 4 b)) (from_be_bytes w32 (take 4 (drop 4 b))) (omega (arith, length-take 4 (drop 4 b), length-drop 4 b))
    (AreBytes-take 4 (drop 4 b) (AreBytes-drop 4 b ok)) refl in
    let index = be_bytes_4 (drop 8 b) (from_be_bytes w32 (drop 8 b)) (omega (arith, length-drop 8 b)) (AreBytes-drop 8 b ok) refl in
    ap (λ (t : List ℕ). t ++ (to_be_bytes w32 (from_be_bytes w32 (take 4 (drop 4 b))) ++ to_be_bytes w32 (from_be_bytes w32 (drop 8 b)))) caller
    ∙ ap (λ (t : List ℕ). take 4 b ++ (t ++ to_be_bytes w32 (from_be_bytes w32 (drop 8 b)))) connection
    ∙ ap (λ (t : List ℕ). take 4 b ++ (take 4 (drop 4 b) ++ t)) (index ∙ sym (drop-drop 4 4 b))
    ∙ ap (λ (t : List ℕ). take 4 b ++ t) (take-append-drop 4 (drop 4 b))
    ∙ take-append-drop 4 b

record_made : (e : Entry) → IsEntry e → AreFields (Exact 1 ∷ Free 12 ∷ AtMost 7 ∷ Free 32 ∷ Packet ∷ Packet ∷ []) (record_bytes e)
record_made e ok =
    let numbered : AreBytes (numbers e) =
    AreBytes-append (to_be_bytes w32 e.caller) (to_be_bytes w32 e.connection ++ to_be_bytes w32 e.index) (be_are_bytes 4 e.caller)
    (AreBytes-append (to_be_bytes w32 e.connection) (to_be_bytes w32 e.index) (be_are_bytes 4 e.connection) (be_are_bytes 4 e.index)) in
    let reply = last_more Packet (packet e.reply) (e.reply, ok.reply.0, ok.reply.1, refl) in
    let payload = more (Packet ∷ []) Packet (packet e.payload) (packet e.reply) (e.payload, ok.payload.0, ok.payload.1, refl) reply in
    let random = more (Packet ∷ Packet ∷ []) (Free 32) e.random (packet e.payload ++ packet e.reply) ok.random payload in
    let locality = more (Free 32 ∷ Packet ∷ Packet ∷ []) (AtMost 7) (e.locality ∷ []) (e.random ++ (packet e.payload ++ packet e.reply)) (e.locality, ok.locality, refl) random in
    exact_more (Free 12 ∷ AtMost 7 ∷ Free 32 ∷ Packet ∷ Packet ∷ []) 1 (numbers e ++ (e.locality ∷ (e.random ++ (packet e.payload ++ packet e.reply))))
    (more (AtMost 7 ∷ Free 32 ∷ Packet ∷ Packet ∷ []) (Free 12) (numbers e) (e.locality ∷ (e.random ++ (packet e.payload ++ packet e.reply))) (refl, numbered) locality)

made_record : (b : List ℕ) → AreFields (Exact 1 ∷ Free 12 ∷ AtMost 7 ∷ Free 32 ∷ Packet ∷ Packet ∷ []) b → IsRecord b
made_record b are =
    let t = exact_rest (Free 12 ∷ AtMost 7 ∷ Free 32 ∷ Packet ∷ Packet ∷ []) 1 b are in
    let n = t.1 in
    let l = n.3 in
    let r = l.3 in
    let p = r.3 in
    let q = last_rest Packet p.1 p.3 in
    let e : Entry = record {
      caller = from_be_bytes w32 (take 4 n.0);
      connection = from_be_bytes w32 (take 4 (drop 4 n.0));
      index = from_be_bytes w32 (drop 8 n.0);
      locality = l.2.0;
      random = r.0;
      payload = p.2.0;
      reply = q.0;
    } in
    let payloads : r.1 ≡ packet e.payload ++ packet e.reply = p.4 ∙ ap (λ (x : List ℕ). x ++ p.1) p.2.3 ∙ ap (λ (x : List ℕ). packet e.payload ++ x) q.3 in
    let behind_locality : l.1 ≡ e.random ++ (packet e.payload ++ packet e.reply) = r.4 ∙ ap (λ (x : List ℕ). r.0 ++ x) payloads in
    let behind_numbers : n.1 ≡ e.locality ∷ (e.random ++ (packet e.payload ++ packet e.reply)) = l.4 ∙ ap (λ (x : List ℕ). x ++ l.1) l.2.2 ∙ ap (λ (x : List ℕ). e.locality ∷ x) behind_locality in
    let behind_tag : t.0 ≡ numbers e ++ (e.locality ∷ (e.random ++ (packet e.payload ++ packet e.reply))) =
    n.4 ∙ ap (λ (x : List ℕ). x ++ n.1) (sym (numbers_are n.0 n.2.0 n.2.1)) ∙ ap (λ (x : List ℕ). numbers e ++ x) behind_numbers in (
      e,
      record {
        caller = below_32 (take 4 n.0) (AreBytes-take 4 n.0 n.2.1);
        connection = below_32 (take 4 (drop 4 n.0)) (AreBytes-take 4 (drop 4 n.0) (AreBytes-drop 4 n.0 n.2.1));
        index = below_32 (drop 8 n.0) (AreBytes-drop 8 n.0 n.2.1);
        locality = l.2.1;
        random = r.2;
        payload = (p.2.1, p.2.2);
        reply = (q.1, q.2);
      },
      t.2 ∙ ap (λ (x : List ℕ). 1 ∷ x) behind_tag,
    )

pub record_words : Words IsRecord (Exact 1 ∷ Free 12 ∷ AtMost 7 ∷ Free 32 ∷ Packet ∷ Packet ∷ [])
record_words b = (λ is. subst (AreFields (Exact 1 ∷ Free 12 ∷ AtMost 7 ∷ Free 32 ∷ Packet ∷ Packet ∷ [])) (sym is.2) (record_made is.0 is.1), made_record b)

-- ---- what may stand there

-- what is said of the words of one kind is said of those of another, where the bytes begin none but theirs
pub judged_as : (V W : List ℕ → Type 0) (b : List ℕ) (front : Front) → ((x : List ℕ) → V x → W x) → ((x more after : List ℕ) → W x → b ++ more ≡ x ++ after → V x)
    → Judged V b front → Judged W b front
judged_as V W b (Whole size) into back j = record { within = j.within; word = into (take size b) j.word }
judged_as V W b (Short need) into back j = record {
  some = (j.some.0, into (b ++ j.some.0) j.some.1);
  least = λ word more after is e. j.least word more after (back word more after is e) e;
  positive = j.positive;
}
judged_as V W b Wrong into back j = λ word more after is e. j word more after (back word more after is e) e

-- words of at least so many bytes
pub judged_longer : (W : List ℕ → Type 0) (b : List ℕ) (front : Front) (size : ℕ) → ((x : List ℕ) → W x → size ≤ length x) → Judged W b front → Judged W b (lengthened front (length b) size)
judged_longer W b (Whole whole) size all j = j
judged_longer W b (Short need) size all j = record {
  some = j.some;
  least = λ word more after is e. let h = j.least word more after is e in let k = all word is in omega (arith, h, k);
  positive = let p = j.positive in omega arith;
}
judged_longer W b Wrong size all j = j

pub header_is : (b : List ℕ) → IsHeader b → IsPart at_front b
header_is b is = (header is.0, is.1, is.2)

pub is_header : (b : List ℕ) → IsPart at_front b → IsHeader b
is_header b (header first, right, is) = (first, right, is)
is_header b (entry e, right, is) = absurd right
is_header b (closing count, right, is) = absurd right

pub judged_header : (fields : List Field) (b : List ℕ) (front : Front) → Words IsHeader fields → Judged (AreFields fields) b front → Judged (IsPart at_front) b (lengthened front (length b) 13)
judged_header fields b front words j =
    judged_longer (IsPart at_front) b front 13 (λ x is. let h = is_header x is in omega (arith, ap length h.2)) (judged_as (AreFields fields) (IsPart at_front) b front (λ x are. header_is x ((words x).1 are)) (λ x more after is e. (words x).0 (is_header x is)) j)

record_is : (records : ℕ) (b : List ℕ) → records < 65536 → IsRecord b → IsPart (behind records) b
record_is records b few is = (entry is.0, (few, is.1), is.2)

end_is : (records : ℕ) (b : List ℕ) → b ≡ end_bytes records → IsPart (behind records) b
end_is records b is = (closing records, refl, is)

-- a part behind records is a record or the end
pub is_behind : (records : ℕ) (b : List ℕ) → IsPart (behind records) b → ((records < 65536) × IsRecord b) ⊎ (b ≡ end_bytes records)
is_behind records b (header first, right, is) = absurd right
is_behind records b (entry e, right, is) = inl (right.0, (e, right.1, is))
is_behind records b (closing count, right, is) = inr (is ∙ ap end_bytes right)

pub record_length : (e : Entry) → length (record_bytes e) ≡ 18 + length e.random + (length e.payload + length e.reply)
record_length e = omega (arith, length-append e.random (packet e.payload ++ packet e.reply), length-append (packet e.payload) (packet e.reply))

record_long : (x : List ℕ) → IsRecord x → 50 ≤ length x
record_long x (e, ok, is) =
    let random = ok.random.0 in
    omega (arith, ap length is, length-append e.random (packet e.payload ++ packet e.reply), length-append (packet e.payload) (packet e.reply))

-- a word that begins as the bytes do begins with their first byte
same_first : (b more x after : List ℕ) → 0 < length b → b ++ more ≡ x ++ after → 0 < length x → get_or b 0 0 ≡ get_or x 0 0
same_first [] more x after some e filled = absurd (omega arith)
same_first (y ∷ b) more [] after some e filled = absurd (omega arith)
same_first (y ∷ b) more (z ∷ x) after some e filled = let same : y ∷ (b ++ more) ≡ z ∷ (x ++ after) = e in cc

module _ (fields : List Field) (records : ℕ) (b : List ℕ) (front : Front) (some : 0 < length b) where
  pub judged_record : Words IsRecord fields → get_or b 0 0 ≡ 1 → records < 65536 → Judged (AreFields fields) b front → Judged (IsPart (behind records)) b (lengthened front (length b) 50)
  judged_record words tag few j =
      let record_only : (x more after : List ℕ) → IsPart (behind records) x → b ++ more ≡ x ++ after → IsRecord x = λ x more after is e. elim (is_behind records x is) [
        | inl right ↦ right.1
        | inr end ↦ (
            let tags = same_first b more x after some e (omega (arith, ap length end)) in
            let other : get_or x 0 0 ≡ 255 = ap (λ (t : List ℕ). get_or t 0 0) end in
            absurd (omega (arith, tags, tag, other))
            )
      ] in
      judged_as IsRecord (IsPart (behind records)) b (lengthened front (length b) 50) (λ x is. record_is records x few is) record_only
      (judged_longer IsRecord b front 50 record_long (judged_as (AreFields fields) IsRecord b front (λ x are. (words x).1 are) (λ x more after is e. (words x).0 is) j))

  pub judged_end : Words (λ x. x ≡ end_bytes records) fields → (get_or b 0 0 ≡ 1 → ⊥) ⊎ (65536 ≤ records) → Judged (AreFields fields) b front → Judged (IsPart (behind records)) b (lengthened front (length b) 9)
  judged_end words no_record j =
      let end_only : (x more after : List ℕ) → IsPart (behind records) x → b ++ more ≡ x ++ after → x ≡ end_bytes records = λ x more after is e. elim (is_behind records x is) [
        | inl right ↦ (
            let tags = same_first b more x after some e (omega (arith, record_long x right.1)) in
            let tag : get_or x 0 0 ≡ 1 = ap (λ (t : List ℕ). get_or t 0 0) right.1.2 in
            absurd (elim no_record [ inl other ↦ other (tags ∙ tag) | inr most ↦ omega (arith, right.0, most) ])
            )
        | inr end ↦ end
      ] in
      let IsEnd : List ℕ → Type 0 = λ x. x ≡ end_bytes records in
      judged_as IsEnd (IsPart (behind records)) b (lengthened front (length b) 9) (λ x is. end_is records x is) end_only
      (judged_longer IsEnd b front 9 (λ x is. omega (arith, ap length is)) (judged_as (AreFields fields) IsEnd b front (λ x are. (words x).1 are) (λ x more after is e. (words x).0 is) j))

-- before the first byte of a record or the end
pub judged_nothing : (records : ℕ) (b : List ℕ) → length b ≡ 0 → BeginsShort (IsPart (behind records)) b 9
judged_nothing records [] none = record {
  some = (end_bytes records, end_is records (end_bytes records) refl);
  least = λ word more after is e. elim (is_behind records word is) [ inl right ↦ omega (arith, record_long word right.1) | inr end ↦ omega (arith, ap length end) ];
  positive = omega arith;
}
judged_nothing records (x ∷ b) none = absurd (omega arith)

pub judged_over : (b : List ℕ) → BeginsNo (IsPart over) b
judged_over b word more after (header first, right, is) e = absurd right
judged_over b word more after (entry x, right, is) e = absurd right
judged_over b word more after (closing count, right, is) e = absurd right

pub some_record : (fields : List Field) → Words IsRecord fields → (word : List ℕ) × AreFields fields word
some_record fields words =
    let e : Entry = record { caller = 0; connection = 0; index = 0; locality = 0; random = replicate 32 0; payload = []; reply = [] } in
    let ok : IsEntry e = record {
      caller = omega arith;
      connection = omega arith;
      index = omega arith;
      locality = omega arith;
      random = (refl, AreBytes-zeros 32);
      payload = (omega arith, λ i. omega arith);
      reply = (omega arith, λ i. omega arith);
    } in
    (record_bytes e, (words (record_bytes e)).0 (e, ok, refl))
