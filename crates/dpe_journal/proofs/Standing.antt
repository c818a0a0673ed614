-- What stands at the front of bytes: a part of a journal that may stand there, a proper front of one, or neither. So a list of
-- bytes has an answer.
use Rattle.std.proofs.Common.{◌≡◌, ℕ, zero, suc, ◌+◌, ◌-◌, ◌/◌, ◌%◌, ◌<◌, ◌≤◌, ◌⊎◌, ◌≢◌, inl, inr, Option, Some, Result, Ok, Err, List, [], ◌∷◌, ◌++◌, length, get_or, take, drop, map, refl, ap, sym, subst, ◌∙◌, append_assoc, append-nil, take-append-drop, arith}
use native.Mathlib.Decide.{ℕ_discrete, dec_lt}
use Rattle.std.specs.Int.{to_be_bytes, from_be_bytes, w16}
use Rattle.std.proofs.lemmas.List.{take_at, take_all, take-take, take-append-le, length-take, length-append}
use Rattle.std.proofs.lemmas.Nat.{from_be_bytes-to_be_bytes_2}
use Rattle.dpe_journal.specs.Journal.{packet, header_bytes, end_bytes}
use Rattle.dpe_journal.specs.Fields.{IsField, AreFields, Judged, BeginsNo, BeginsWhole, lengthened}
use Rattle.dpe_model.specs.History.{Entry}
use Rattle.dpe_journal.specs.Stages.{Stage, at_front, behind, over, Part, header, entry, closing, part_bytes, MayStand, IsPart, IsCutShort, BeginsNoPart}
use Rattle.dpe_journal.specs.Reading.{ReadsPart}
use Rattle.dpe_journal.specs.declared.records.Next.{Next}
use Rattle.dpe_journal.specs.declared.records.Next.TheVariants as nexts
use Rattle.dpe_journal.specs.declared.records.RecordFault.{RecordFault}
use Rattle.dpe_journal.specs.declared.records.RecordFault.TheVariants.{Malformed, Truncated, ReadFault}
use Rattle.dpe_journal.specs.declared.fields.Field.{Field}
use Rattle.dpe_journal.specs.declared.fields.Field.TheVariants.{Exact, AtMost, Free, Packet}
use Rattle.dpe_journal.specs.declared.fields.Front.{Front}
use Rattle.dpe_journal.specs.declared.fields.Front.TheVariants.{Whole, Short, Wrong}
use Rattle.dpe_journal.proofs.Bytes.{AreBytes-append, AreBytes-take}
use Rattle.dpe_journal.proofs.Judging.{exact_short, at_most_short, free_short, packet_none, packet_high_short, packet_short, packet_whole, first_wrong, first_short, later_wrong, later_short, later_whole}
use Rattle.dpe_journal.proofs.PartReads.{cut_short}
use Rattle.dpe_journal.proofs.Parts.{be_are_bytes, header_words, record_words, all_told, some_record, judged_header, judged_record, judged_end, judged_nothing}

-- ## Lists of bytes

abbrev AreBytes : List ℕ → Type 0
AreBytes b = (i : ℕ) → get_or b i 0 < 256

bytes_more : (x : ℕ) (b : List ℕ) → x < 256 → AreBytes b → AreBytes (x ∷ b)
bytes_more x b small later zero = small
bytes_more x b small later (suc i) = later i

are_bytes : (b : List ℕ) → AreBytes b ⊎ (AreBytes b → ⊥)
are_bytes [] = inl (λ i. omega arith)
are_bytes (x ∷ b) =
    elim (dec_lt x 256) [
      | yes small ↦ elim (are_bytes b) [ inl later ↦ inl (bytes_more x b small later) | inr other ↦ inr (λ all. other (λ i. all (suc i))) ]
      | no large ↦ inr (λ all. large (all 0))
    ]

-- what a list and one of bytes have in common at their front, within the size of the latter, are bytes
common_bytes : (b more word after : List ℕ) (size : ℕ) → length word ≡ size → b ++ more ≡ word ++ after → AreBytes word → AreBytes (take size b)
common_bytes b more word after size long e ok =
    elim (dec_lt (length b) size) [
      | yes few ↦ (
          let front : b ≡ take (length b) word =
          sym (take_at b more (length b) refl) ∙ ap (take (length b)) e ∙ take-append-le (length b) word after (omega (arith, long, few)) in
          let all : take size b ≡ take (length b) word = take_all size b (omega (arith, few)) ∙ front in
          subst AreBytes (sym all) (AreBytes-take (length b) word ok)
          )
      | no many ↦ (
          let all : take size b ≡ word = sym (take-append-le size b more (omega arith)) ∙ ap (take size) e ∙ take_at word after size long in
          subst AreBytes (sym all) ok
          )
    ]

-- how far the bytes go of these words
abbrev Known : (List ℕ → Type 0) → List ℕ → Type 0
Known IsWord bytes = (front : Front) × Judged IsWord bytes front

-- ## One field

exact_known : (byte : ℕ) (b : List ℕ) → Known (IsField (Exact byte)) b
exact_known byte [] = (Short 1, exact_short byte [] refl)
exact_known byte (x ∷ b) =
    elim (ℕ_discrete x byte) [
      | yes same ↦ (Whole 1, record { within = omega arith; word = ap (λ (n : ℕ). n ∷ []) same })
      | no other ↦ (
        Wrong,
        λ word more after is e.
            let begins : x ∷ (b ++ more) ≡ byte ∷ after = e ∙ ap (λ (t : List ℕ). t ++ after) is in
            let same : x ≡ byte = cc in
            other same,
      )
    ]

at_most_known : (most : ℕ) (b : List ℕ) → Known (IsField (AtMost most)) b
at_most_known most [] = (Short 1, at_most_short most [] refl)
at_most_known most (x ∷ b) =
    elim (dec_lt most x) [
      | yes far ↦ (
        Wrong,
        λ word more after is e.
            let begins : x ∷ (b ++ more) ≡ is.0 ∷ after = e ∙ ap (λ (t : List ℕ). t ++ after) is.2 in
            let same : x ≡ is.0 = cc in
            omega (arith, same, is.1, far),
      )
      | no near ↦ (Whole 1, record { within = omega arith; word = (x, omega arith, refl) })
    ]

free_known : (size : ℕ) (b : List ℕ) → Known (IsField (Free size)) b
free_known size b =
    elim (are_bytes (take size b)) [
      | inr other ↦ (Wrong, λ word more after is e. other (common_bytes b more word after size is.0 e is.1))
      | inl ok ↦ elim (dec_lt (length b) size) [
        | yes few ↦ (Short (size - length b), free_short size b (subst AreBytes (take_all size b (omega (arith, few))) ok) few)
        | no many ↦ (Whole size, record { within = omega arith; word = (omega (arith, length-take size b), ok) })
      ]
    ]

-- ## A payload behind its length

-- no length of at most 4,096 begins so
high_wrong : (high : ℕ) → 16 < high → BeginsNo (IsField Packet) (high ∷ [])
high_wrong high far word more after is e =
    let head : high ≡ length is.0 / 256 % 256 = ap (λ (t : List ℕ). get_or t 0 0) (e ∙ ap (λ (t : List ℕ). t ++ after) is.3) in
    omega (arith, head, is.1, far)

-- a packet's first two bytes tell its payload's length
tells : (b p more after : List ℕ) → 2 ≤ length b → length p ≤ 4096 → b ++ more ≡ packet p ++ after → from_be_bytes w16 (take 2 b) ≡ length p
tells b p more after long few e =
    let head : take 2 b ≡ to_be_bytes w16 (length p) =
    sym (take-append-le 2 b more long) ∙ ap (take 2) (e ∙ append_assoc (to_be_bytes w16 (length p)) p after) ∙ take_at (to_be_bytes w16 (length p)) (p ++ after) 2 refl in
    ap (from_be_bytes w16) head ∙ from_be_bytes-to_be_bytes_2 (length p) (omega arith)

-- the whole of so many bytes stands there, where they are bytes
told_whole : (told : ℕ) (b : List ℕ) → told ≡ from_be_bytes w16 (take 2 b) → 2 + told ≤ length b → told ≤ 4096 → AreBytes (take (2 + told) b) → BeginsWhole (IsField Packet) b (2 + told)
told_whole told b is enough near ok =
    let c : List ℕ = take (2 + told) b in
    let long : length c ≡ 2 + told = omega (arith, length-take (2 + told) b, enough) in
    let head : take 2 c ≡ take 2 b = take-take 2 (2 + told) b (omega arith) in
    let w = packet_whole told c (is ∙ ap (from_be_bytes w16) (sym head)) ok (omega (arith, long)) near (omega (arith, long)) in
    record { within = enough; word = subst (IsField Packet) (take_all (2 + told) c (omega (arith, long))) w.word }

packet_bytes : (p : List ℕ) → AreBytes p → AreBytes (packet p)
packet_bytes p ok = AreBytes-append (to_be_bytes w16 (length p)) p (be_are_bytes 2 (length p)) ok

told_known : (told : ℕ) (b : List ℕ) → told ≡ from_be_bytes w16 (take 2 b) → 2 ≤ length b → Known (IsField Packet) b
told_known told b is long =
    elim (dec_lt 4096 told) [
      | yes far ↦ (
        Wrong,
        λ word more after w e.
            let same = tells b w.0 more after long w.1 (e ∙ ap (λ (t : List ℕ). t ++ after) w.3) in
            omega (arith, same, is, w.1, far),
      )
      | no near ↦ elim (are_bytes (take (2 + told) b)) [
        | inr other ↦ (
          Wrong,
          λ word more after w e.
              let whole : b ++ more ≡ packet w.0 ++ after = e ∙ ap (λ (t : List ℕ). t ++ after) w.3 in
              let same = tells b w.0 more after long w.1 whole in
              let size : length (packet w.0) ≡ 2 + told = omega (arith, same, is, length-append (to_be_bytes w16 (length w.0)) w.0) in
              other (common_bytes b more (packet w.0) after (2 + told) size whole (packet_bytes w.0 w.2)),
        )
        | inl ok ↦ elim (dec_lt (length b) (2 + told)) [
          | yes few ↦ (Short (2 + told - length b), packet_short told b is (subst AreBytes (take_all (2 + told) b (omega (arith, few))) ok) long (omega arith) few)
          | no many ↦ (Whole (2 + told), told_whole told b is (omega arith) (omega arith) ok)
        ]
      ]
    ]

packet_known : (b : List ℕ) → Known (IsField Packet) b
packet_known [] = (Short 2, packet_none [] refl)
packet_known (high ∷ []) = elim (dec_lt 16 high) [ yes far ↦ (Wrong, high_wrong high far) | no near ↦ (Short 1, packet_high_short high (omega arith)) ]
packet_known (x ∷ y ∷ b) = told_known (from_be_bytes w16 (take 2 (x ∷ y ∷ b))) (x ∷ y ∷ b) refl (omega arith)

field_known : (f : Field) (b : List ℕ) → Known (IsField f) b
field_known (Exact byte) b = exact_known byte b
field_known (AtMost most) b = at_most_known most b
field_known (Free size) b = free_known size b
field_known Packet b = packet_known b

-- ## One field after another

module _ (f : Field) (fs : List Field) (b : List ℕ) where
  behind_known : (size : ℕ) → BeginsWhole (IsField f) b size → (front : Front) → Judged (AreFields fs) (drop size b) front → Known (AreFields (f ∷ fs)) b
  behind_known size one (Whole more) j = (Whole (size + more), later_whole f fs b size one more j)
  behind_known size one (Short need) j = (Short need, later_short f fs b size one need j)
  behind_known size one Wrong j = (Wrong, later_wrong f fs b size one j)

  first_known : (word : List ℕ) × AreFields fs word → ((size : ℕ) → Known (AreFields fs) (drop size b)) → (front : Front) → Judged (IsField f) b front → Known (AreFields (f ∷ fs)) b
  first_known some later (Whole size) j = let k = later size in behind_known size j k.0 k.1
  first_known some later (Short need) j = (Short need, first_short f fs b need j some)
  first_known some later Wrong j = (Wrong, first_wrong f fs b j)

-- of fields that some bytes are
fields_known : (fs : List Field) (b : List ℕ) → (word : List ℕ) × AreFields fs word → Known (AreFields fs) b
fields_known [] b some = (Whole 0, record { within = omega arith; word = refl })
fields_known (f ∷ fs) b some =
    let k = field_known f b in
    let later : (word : List ℕ) × AreFields fs word = (some.1.1, some.1.3) in
    first_known f fs b later (λ size. fields_known fs (drop size b) later) k.0 k.1

-- ## Parts

abbrev header_fields : List Field
header_fields = Exact 68 ∷ Exact 80 ∷ Exact 69 ∷ Exact 74 ∷ Exact 1 ∷ Free 8 ∷ []

abbrev record_fields : List Field
record_fields = Exact 1 ∷ Free 12 ∷ AtMost 7 ∷ Free 32 ∷ Packet ∷ Packet ∷ []

abbrev end_fields : ℕ → List Field
end_fields records = map Exact (end_bytes records)

header_known : (b : List ℕ) → Known (IsPart at_front) b
header_known b =
    let k = fields_known header_fields b (header_bytes 0, (header_words (header_bytes 0)).0 (0, omega arith, refl)) in
    (lengthened k.0 (length b) 13, judged_header header_fields b k.0 header_words k.1)

module _ (records : ℕ) (b : List ℕ) (some : 0 < length b) where
  record_known : get_or b 0 0 ≡ 1 → records < 65536 → Known (IsPart (behind records)) b
  record_known tag few =
      let k = fields_known record_fields b (some_record record_fields record_words) in
      (lengthened k.0 (length b) 50, judged_record record_fields records b k.0 some record_words tag few k.1)

  end_known : (get_or b 0 0 ≡ 1 → ⊥) ⊎ (65536 ≤ records) → Known (IsPart (behind records)) b
  end_known no_record =
      let k = fields_known (end_fields records) b (end_bytes records, (all_told (end_bytes records) (end_bytes records)).0 refl) in
      (lengthened k.0 (length b) 9, judged_end (end_fields records) records b k.0 some (all_told (end_bytes records)) no_record k.1)

  filled_known : Known (IsPart (behind records)) b
  filled_known =
      elim (ℕ_discrete (get_or b 0 0) 1) [
        | yes tag ↦ elim (dec_lt records 65536) [ yes few ↦ record_known tag few | no most ↦ end_known (inr (omega arith)) ]
        | no other ↦ end_known (inl other)
      ]

part_known : (records : ℕ) (b : List ℕ) → Known (IsPart (behind records)) b
part_known records [] = (Short 9, judged_nothing records [] refl)
part_known records (x ∷ b) = filled_known records (x ∷ b) (omega arith)

-- ## What stands there

-- a part that may stand there, with the bytes behind it; or a proper front of one; or bytes that begin none
pub data Standing (stage : Stage) (bytes : List ℕ) : Type 0 where
  stands : (part more : List ℕ) → IsPart stage part → bytes ≡ part ++ more → Standing stage bytes
  cut_off : IsCutShort stage bytes → Standing stage bytes
  no_part : BeginsNoPart stage bytes → Standing stage bytes

judged_there : (stage : Stage) (b : List ℕ) (front : Front) → Judged (IsPart stage) b front → Standing stage b
judged_there stage b (Whole size) j = stands (take size b) (drop size b) j.word (sym (take-append-drop size b))
judged_there stage b (Short need) j = cut_off (cut_short stage b need j)
judged_there stage b Wrong j = no_part j

pub at_the_front : (b : List ℕ) → Standing at_front b
at_the_front b = let k = header_known b in judged_there at_front b k.0 k.1

pub behind_records : (records : ℕ) (b : List ℕ) → Standing (behind records) b
behind_records records b = let k = part_known records b in judged_there (behind records) b k.0 k.1

-- ## The answer

nothing_over : (b : List ℕ) → BeginsNoPart over b
nothing_over b part more after (header first, may, is) e = absurd may
nothing_over b part more after (entry x, may, is) e = absurd may
nothing_over b part more after (closing count, may, is) e = absurd may

abbrev Answer : Type 0
Answer = Result Next RecordFault

abbrev Unfailed : Answer → Type 0
Unfailed (Ok next) = Unit {0}
Unfailed (Err (Malformed place)) = Unit {0}
Unfailed (Err (Truncated place)) = Unit {0}
Unfailed (Err ReadFault) = ⊥

unfailed : (result : Answer) → Unfailed result → result ≢ Err ReadFault
unfailed result is e = subst Unfailed e is

some_entry : Entry
some_entry = record { caller = 0; connection = 0; index = 0; locality = 0; random = []; payload = []; reply = [] }

module _ (stage : Stage) (at : ℕ) (b : List ℕ) where
  abbrev Answered : Type 0
  Answered = (left : Option (List ℕ)) × (e : Entry) × (result : Answer) × ReadsPart (Some b) left stage at e result × (result ≢ Err ReadFault)

  answered_end : (count : ℕ) → MayStand stage (closing count) → (more : List ℕ) → b ≡ part_bytes (closing count) ++ more → Answered
  answered_end count may [] is = (Some [], some_entry, Ok (nexts.End count), record { right = may; taken = is; ends = refl }, unfailed (Ok (nexts.End count)) tt)
  answered_end count may (x ∷ more) is = (
    Some [],
    some_entry,
    Err (Malformed (at + 9)),
    (b, sym (append-nil b), inr ((count, x ∷ more, may, omega arith, is), refl)),
    unfailed (Err (Malformed (at + 9))) tt,
  )

  answered_part : (part : Part) → MayStand stage part → (more : List ℕ) → b ≡ part_bytes part ++ more → Answered
  answered_part (header first) may more is =
      (Some more, some_entry, Ok (nexts.Header first), record { right = may; taken = is; ends = tt }, unfailed (Ok (nexts.Header first)) tt)
  answered_part (entry x) may more is = (Some more, x, Ok nexts.Entry, record { right = may; taken = is; ends = tt }, unfailed (Ok nexts.Entry) tt)
  answered_part (closing count) may more is = answered_end count may more is

  answered : Standing stage b → Answered
  answered (stands part more it is) = answered_part it.0 it.1 more (is ∙ ap (λ (t : List ℕ). t ++ more) it.2)
  answered (cut_off short) = (Some [], some_entry, Err (Truncated at), (b, sym (append-nil b), short, refl, refl), unfailed (Err (Truncated at)) tt)
  answered (no_part none) = (Some [], some_entry, Err (Malformed at), (b, sym (append-nil b), inl (none, refl)), unfailed (Err (Malformed at)) tt)

pub some_answer : (stage : Stage) (at : ℕ) (b : List ℕ) → Answered stage at b
some_answer at_front at b = answered at_front at b (at_the_front b)
some_answer (behind records) at b = answered (behind records) at b (behind_records records b)
some_answer over at b = answered over at b (no_part (nothing_over b))
