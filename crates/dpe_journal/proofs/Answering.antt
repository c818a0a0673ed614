-- One list of bytes has one answer.
use Rattle.std.proofs.Common.{◌≡◌, ◌≢◌, ℕ, ◌<◌, inl, inr, List, [], ◌++◌, length, drop, Option, Some, None, Result, Ok, Err, refl, ap, sym, ◌∙◌, subst, append_assoc, append-nil, arith}
use Rattle.std.specs.Io.KnownBytes.{Consumes, IsAtEnd}
use Rattle.std.proofs.lemmas.List.{length-append}
use Rattle.dpe_model.specs.History.{Entry}
use Rattle.dpe_journal.specs.Journal.{header_bytes, end_bytes}
use Rattle.dpe_journal.specs.Stages.{Part, header, entry, closing, part_bytes, Stage, at_front, behind, over, MayStand, IsCutShort, BeginsNoPart}
use Rattle.dpe_journal.specs.Reading.{part_of, EndsThere, TakesPart, StopsThere, ReadsPart, SameAnswer}
use Rattle.dpe_journal.specs.declared.records.Next.{Next}
use Rattle.dpe_journal.specs.declared.records.Next.TheVariants as nexts
use Rattle.dpe_journal.specs.declared.records.RecordFault.{RecordFault}
use Rattle.dpe_journal.specs.declared.records.RecordFault.TheVariants.{Malformed, Truncated, ReadFault}
use Rattle.dpe_journal.proofs.Bytes.{cut}
use Rattle.dpe_journal.proofs.Law.{same_64, same_record}

-- two parts that may stand there, at the front of the same bytes, are one
same_part : (stage : Stage) (p q : Part) (x y : List ℕ) → MayStand stage p → MayStand stage q → part_bytes p ++ x ≡ part_bytes q ++ y → (p ≡ q) × (x ≡ y)
same_part at_front (header first) (header other) x y a b e =
    let c = cut (header_bytes first) (header_bytes other) x y refl e in
    (ap header (same_64 first other a b (ap (drop 5) c.0)), c.1)
same_part at_front (header first) (entry f) x y a b e = absurd b
same_part at_front (header first) (closing other) x y a b e = absurd b
same_part at_front (entry f) q x y a b e = absurd a
same_part at_front (closing count) q x y a b e = absurd a
same_part (behind records) (header first) q x y a b e = absurd a
same_part (behind records) (entry f) (header other) x y a b e = absurd b
same_part (behind records) (entry f) (entry g) x y a b e = let s = same_record f g x y a.1 b.1 e in (ap entry s.0, s.1)
same_part (behind records) (entry f) (closing other) x y a b e = cc
same_part (behind records) (closing count) (header other) x y a b e = absurd b
same_part (behind records) (closing count) (entry g) x y a b e = cc
same_part (behind records) (closing count) (closing other) x y a b e = (ap closing (a ∙ sym b), (cut (end_bytes count) (end_bytes other) x y refl e).1)
same_part over (header first) q x y a b e = absurd a
same_part over (entry f) q x y a b e = absurd a
same_part over (closing count) q x y a b e = absurd a

-- what was taken of told bytes, and what is left
consumed : (left : Option (List ℕ)) (bytes taken : List ℕ) → Consumes (Some bytes) left taken → (rest : List ℕ) × (left ≡ Some rest) × (bytes ≡ taken ++ rest)
consumed (Some rest) bytes taken e = (rest, refl, e)
consumed None bytes taken e = absurd e

nothing_left : (left : Option (List ℕ)) (rest : List ℕ) → left ≡ Some rest → IsAtEnd left → rest ≡ []
nothing_left left rest is end = subst IsAtEnd is end

-- the end leaves nothing behind it
no_end : (next : Next) (left : Option (List ℕ)) (e : Entry) (count : ℕ) (rest more : List ℕ) → part_of next e ≡ closing count → left ≡ Some rest → rest ≡ more → EndsThere next left → 0 < length more → ⊥
no_end (nexts.Header first) left e count rest more is left_is same end some = cc
no_end nexts.Entry left e count rest more is left_is same end some = cc
no_end (nexts.End n) left e count rest more is left_is same end some = omega (arith, ap length (nothing_left left rest left_is end), ap length same, some)

module _ (stage : Stage) (bytes : List ℕ) where
  -- bytes that begin with a part can't begin with none
  begin_some : (p : Part) (x taken z : List ℕ) → MayStand stage p → bytes ≡ part_bytes p ++ x → BeginsNoPart stage taken → bytes ≡ taken ++ z → ⊥
  begin_some p x taken z right is none e = none (part_bytes p) z x (p, right, refl) (sym e ∙ is)

  -- bytes that begin with a part are no proper front of one
  not_short : (p : Part) (x : List ℕ) → MayStand stage p → bytes ≡ part_bytes p ++ x → IsCutShort stage bytes → ⊥
  not_short p x right is (more, some, (q, may, whole)) =
      let both : part_bytes p ++ (x ++ more) ≡ part_bytes q ++ [] =
      sym (append_assoc (part_bytes p) x more) ∙ ap (λ (t : List ℕ). t ++ more) (sym is) ∙ whole ∙ sym (append-nil (part_bytes q)) in
      let s = same_part stage p q (x ++ more) [] right may both in
      omega (arith, ap length s.1, length-append x more, some)

  -- a proper front of a part is no bytes with which none begins
  not_none : (taken z : List ℕ) → BeginsNoPart stage taken → bytes ≡ taken ++ z → IsCutShort stage bytes → ⊥
  not_none taken z none is (more, some, (q, may, whole)) =
      none (part_bytes q) (z ++ more) [] (q, may, refl)
      (sym (append_assoc taken z more) ∙ ap (λ (t : List ℕ). t ++ more) (sym is) ∙ whole ∙ sym (append-nil (part_bytes q)))

  -- whether a fault at a further byte, or at the part, the bytes begin with no part or with the end and a byte more
  ok_or_malformed : (left other : Option (List ℕ)) (at place : ℕ) (e : Entry) (next : Next) → TakesPart (Some bytes) left stage e next → StopsThere (Some bytes) other stage at (Malformed place) → ⊥
  ok_or_malformed left other at place e next t (taken, took, why) =
      let c = consumed left bytes (part_bytes (part_of next e)) t.taken in
      let d = consumed other bytes taken took in
      elim why [
        | inl none ↦ begin_some (part_of next e) c.0 taken d.0 t.right c.2 none.0 d.2
        | inr more ↦ (
            let on = more.0 in
            let both : part_bytes (part_of next e) ++ c.0 ≡ part_bytes (closing on.0) ++ (on.1 ++ d.0) =
            sym c.2 ∙ d.2 ∙ ap (λ (x : List ℕ). x ++ d.0) on.4 ∙ append_assoc (end_bytes on.0) on.1 d.0 in
            let s = same_part stage (part_of next e) (closing on.0) c.0 (on.1 ++ d.0) t.right on.2 both in
            no_end next left e on.0 c.0 (on.1 ++ d.0) s.0 c.1 s.1 t.ends (omega (arith, length-append on.1 d.0, on.3))
            )
      ]

  ok_or_truncated : (left other : Option (List ℕ)) (at place : ℕ) (e : Entry) (next : Next) → TakesPart (Some bytes) left stage e next → StopsThere (Some bytes) other stage at (Truncated place) → ⊥
  ok_or_truncated left other at place e next t (taken, took, short, end, is) =
      let c = consumed left bytes (part_bytes (part_of next e)) t.taken in
      let d = consumed other bytes taken took in
      let whole : taken ≡ bytes = sym (d.2 ∙ ap (λ (x : List ℕ). taken ++ x) (nothing_left other d.0 d.1 end) ∙ append-nil taken) in
      not_short (part_of next e) c.0 t.right c.2 (subst (IsCutShort stage) whole short)

  malformed_or_truncated : (left other : Option (List ℕ)) (at place there : ℕ) → StopsThere (Some bytes) left stage at (Malformed place) → StopsThere (Some bytes) other stage at (Truncated there) → ⊥
  malformed_or_truncated left other at place there (wrong, took, why) (taken, given, short, end, is) =
      let c = consumed left bytes wrong took in
      let d = consumed other bytes taken given in
      let whole : taken ≡ bytes = sym (d.2 ∙ ap (λ (x : List ℕ). taken ++ x) (nothing_left other d.0 d.1 end) ∙ append-nil taken) in
      let cut_off = subst (IsCutShort stage) whole short in
      elim why [
        | inl none ↦ not_none wrong c.0 none.0 c.2 cut_off
        | inr more ↦ (
            let on = more.0 in
            not_short (closing on.0) (on.1 ++ c.0) on.2 (c.2 ∙ ap (λ (x : List ℕ). x ++ c.0) on.4 ∙ append_assoc (end_bytes on.0) on.1 c.0) cut_off
            )
      ]

  both_malformed : (left other : Option (List ℕ)) (at place there : ℕ) → StopsThere (Some bytes) left stage at (Malformed place) → StopsThere (Some bytes) other stage at (Malformed there) → place ≡ there
  both_malformed left other at place there (taken, took, why) (wrong, given, because) =
      let c = consumed left bytes taken took in
      let d = consumed other bytes wrong given in
      elim why [
        | inl none ↦ elim because [
          | inl empty ↦ none.1 ∙ sym empty.1
          | inr more ↦ (
              let on = more.0 in
              absurd (begin_some (closing on.0) (on.1 ++ d.0) taken c.0 on.2 (d.2 ∙ ap (λ (x : List ℕ). x ++ d.0) on.4 ∙ append_assoc (end_bytes on.0) on.1 d.0) none.0 c.2)
              )
        ]
        | inr more ↦ elim because [
          | inl empty ↦ (
              let on = more.0 in
              absurd (begin_some (closing on.0) (on.1 ++ c.0) wrong d.0 on.2 (c.2 ∙ ap (λ (x : List ℕ). x ++ c.0) on.4 ∙ append_assoc (end_bytes on.0) on.1 c.0) empty.0 d.2)
              )
          | inr further ↦ more.1 ∙ sym further.1
        ]
      ]

-- answers that tell the same part are one
same_next : (n m : Next) (e f : Entry) → part_of n e ≡ part_of m f → n ≡ m
same_next (nexts.Header first) (nexts.Header other) e f is = let same : first ≡ other = cc in ap nexts.Header same
same_next (nexts.Header first) nexts.Entry e f is = cc
same_next (nexts.Header first) (nexts.End other) e f is = cc
same_next nexts.Entry (nexts.Header other) e f is = cc
same_next nexts.Entry nexts.Entry e f is = refl
same_next nexts.Entry (nexts.End other) e f is = cc
same_next (nexts.End count) (nexts.Header other) e f is = cc
same_next (nexts.End count) nexts.Entry e f is = cc
same_next (nexts.End count) (nexts.End other) e f is = let same : count ≡ other = cc in ap nexts.End same

pub same_answer : (stage : Stage) (at : ℕ) (bytes : List ℕ) (left other : Option (List ℕ)) (e f : Entry) (result answer : Result Next RecordFault)
    → ReadsPart (Some bytes) left stage at e result → ReadsPart (Some bytes) other stage at f answer → result ≢ Err ReadFault → answer ≢ Err ReadFault
    → SameAnswer left other e f result answer
same_answer stage at bytes left other e f (Ok n) (Ok m) r a no_fault faultless =
    let c = consumed left bytes (part_bytes (part_of n e)) r.taken in
    let d = consumed other bytes (part_bytes (part_of m f)) a.taken in
    let s = same_part stage (part_of n e) (part_of m f) c.0 d.0 r.right a.right (sym c.2 ∙ d.2) in
    (same_next n m e f s.0, s.0, c.1 ∙ ap Some s.1 ∙ sym d.1)
same_answer stage at bytes left other e f (Ok n) (Err (Malformed place)) r a no_fault faultless = absurd (ok_or_malformed stage bytes left other at place e n r a)
same_answer stage at bytes left other e f (Ok n) (Err (Truncated place)) r a no_fault faultless = absurd (ok_or_truncated stage bytes left other at place e n r a)
same_answer stage at bytes left other e f (Ok n) (Err ReadFault) r a no_fault faultless = absurd (faultless refl)
same_answer stage at bytes left other e f (Err (Malformed place)) (Ok m) r a no_fault faultless = absurd (ok_or_malformed stage bytes other left at place f m a r)
same_answer stage at bytes left other e f (Err (Malformed place)) (Err (Malformed there)) r a no_fault faultless = ap Malformed (both_malformed stage bytes left other at place there r a)
same_answer stage at bytes left other e f (Err (Malformed place)) (Err (Truncated there)) r a no_fault faultless = absurd (malformed_or_truncated stage bytes left other at place there r a)
same_answer stage at bytes left other e f (Err (Malformed place)) (Err ReadFault) r a no_fault faultless = absurd (faultless refl)
same_answer stage at bytes left other e f (Err (Truncated place)) (Ok m) r a no_fault faultless = absurd (ok_or_truncated stage bytes other left at place f m a r)
same_answer stage at bytes left other e f (Err (Truncated place)) (Err (Malformed there)) r a no_fault faultless = absurd (malformed_or_truncated stage bytes other left at there place a r)
same_answer stage at bytes left other e f (Err (Truncated place)) (Err (Truncated there)) r a no_fault faultless = ap Truncated (r.4 ∙ sym a.4)
same_answer stage at bytes left other e f (Err (Truncated place)) (Err ReadFault) r a no_fault faultless = absurd (faultless refl)
same_answer stage at bytes left other e f (Err ReadFault) answer r a no_fault faultless = absurd (no_fault refl)
