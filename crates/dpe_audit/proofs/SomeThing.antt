-- Bytes are found to be something: a journal, a front of one with a fault behind it, or one with a reply that differs.
use Rattle.std.proofs.Common.{◌≡◌, ◌≢◌, ℕ, zero, suc, ◌+◌, ◌<◌, Bool, true, false, List, [], ◌∷◌, ◌++◌, length, flat_map, Option, Some, ◌⊎◌, inl, inr, refl, sym, ap, ◌∙◌, append_assoc, append-nil, arith}
use Rattle.std.specs.Str.{bytes_eq}
use Rattle.std.proofs.lemmas.Slice.Eq.{bytes_eq-Decides}
use Rattle.std.proofs.lemmas.List.{length-append}
use Rattle.dpe_model.specs.History.{Entry, IsEntry, Legal, reply_to, state_after}
use Rattle.dpe_model.specs.State.{start}
use Rattle.dpe_model.proofs.Runs.{append_all, legal_append, legal_one}
use Rattle.dpe_journal.specs.Journal.{most_records, header_bytes, record_bytes, end_bytes}
use Rattle.dpe_journal.specs.Stages.{at_front, behind, IsPart, IsCutShort, BeginsNoPart}
use Rattle.dpe_journal.specs.declared.records.RecordFault.TheVariants.{Malformed, Truncated}
use Rattle.dpe_journal.proofs.Parts.{is_header, is_behind, record_length}
use Rattle.dpe_audit.specs.Finding.{Finding, whole, faulty, differing, Finds}
use Rattle.dpe_audit.specs.Front.{nothing, headed, front_bytes, IsFront}
use Rattle.dpe_audit.specs.Mode.{Mode, check, live, list, connection, Judged, Judges}
use Rattle.dpe_audit.specs.Replay.{IsVerdict}
use Rattle.dpe_audit.proofs.OneThing.{judged_fact, fact_judged}
use Rattle.dpe_audit.proofs.Records.{records_more}
use Rattle.dpe_journal.proofs.Standing.{Standing, stands, cut_off, no_part, at_the_front, behind_records}

-- ## The reply of an entry

same_or_other : (xs ys : List ℕ) (b : Bool) → bytes_eq xs ys ≡ b → (xs ≡ ys) ⊎ (xs ≢ ys)
same_or_other xs ys true e = inl ((bytes_eq-Decides xs ys).0 e)
same_or_other xs ys false e =
    inr (λ same.
    let eq : bytes_eq xs ys ≡ true = (bytes_eq-Decides xs ys).1 same in
    let never : true ≡ false = sym eq ∙ e in
    cc)

-- where replies are compared, the two are the same; or they are compared, and differ
compared : (mode : Mode) (xs ys : List ℕ) → Judged mode (xs ≡ ys) ⊎ (Judges mode × (xs ≢ ys))
compared check xs ys = elim (same_or_other xs ys (bytes_eq xs ys) refl) [ inl same ↦ inl same | inr other ↦ inr (tt, other) ]
compared live xs ys = elim (same_or_other xs ys (bytes_eq xs ys) refl) [ inl same ↦ inl same | inr other ↦ inr (tt, other) ]
compared list xs ys = inl tt
compared (connection caller number) xs ys = inl tt

one_more : (seed : List ℕ) (first : ℕ) (H : List Entry) (e : Entry) → IsEntry e → Legal seed first H → e.reply ≡ reply_to seed (state_after seed first H) e → Legal seed first (H ++ e ∷ [])
one_more seed first H e is legal same = legal_append seed (start first) H (e ∷ []) legal (legal_one seed (state_after seed first H) e is same)

judged_more : (mode : Mode) (seed : List ℕ) (first : ℕ) (H : List Entry) (e : Entry) → IsEntry e → Judged mode (Legal seed first H)
    → Judged mode (e.reply ≡ reply_to seed (state_after seed first H) e) → Judged mode (Legal seed first (H ++ e ∷ []))
judged_more check seed first H e is legal same = one_more seed first H e is legal same
judged_more live seed first H e is legal same = one_more seed first H e is legal same
judged_more list seed first H e is legal same = tt
judged_more (connection caller number) seed first H e is legal same = tt

-- ## What is found

module _ (mode : Mode) (seed bytes : List ℕ) where
  abbrev Found : Type 0
  Found = (finding : Finding) × (left : Option (List ℕ)) × Finds mode seed (Some bytes) left finding × IsVerdict finding

  -- this tail stands behind a header and entries, which are sound
  record Stood (first : ℕ) (H : List Entry) (tail : List ℕ) : Type 0 where
    right : IsFront (headed first H)
    sound : Judged mode (Legal seed first H)
    parts : bytes ≡ front_bytes (headed first H) ++ tail

  module _ (first : ℕ) (H : List Entry) (tail : List ℕ) (s : Stood first H tail) where
    found_short : IsCutShort (behind (length H)) tail → Found
    found_short cut = (
      faulty (headed first H) (Truncated (length (front_bytes (headed first H)))),
      Some [],
      record { right = s.right; sound = s.sound; left = Some tail; read = s.parts; stops = (tail, sym (append-nil tail), cut, refl, refl) },
      tt,
    )

    found_wrong : BeginsNoPart (behind (length H)) tail → Found
    found_wrong none = (
      faulty (headed first H) (Malformed (length (front_bytes (headed first H)))),
      Some [],
      record { right = s.right; sound = s.sound; left = Some tail; read = s.parts; stops = (tail, sym (append-nil tail), inl (none, refl)) },
      tt,
    )

    -- the end stands there, and nothing or more behind it
    found_end : (more : List ℕ) → tail ≡ end_bytes (length H) ++ more → Found
    found_end [] is = (
      whole first H,
      Some [],
      record {
        right = s.right;
        sound = s.sound;
        read = s.parts ∙ ap (λ (t : List ℕ). front_bytes (headed first H) ++ t) is
            ∙ sym (append_assoc (front_bytes (headed first H)) (end_bytes (length H)) [])
            ∙ ap (λ (t : List ℕ). t ++ []) (append_assoc (header_bytes first) (flat_map record_bytes H) (end_bytes (length H)));
        at_end = refl;
      },
      tt,
    )
    found_end (x ∷ more) is = (
      faulty (headed first H) (Malformed (length (front_bytes (headed first H)) + 9)),
      Some [],
      record {
        right = s.right;
        sound = s.sound;
        left = Some tail;
        read = s.parts;
        stops = (tail, sym (append-nil tail), inr ((length H, x ∷ more, refl, omega arith, is), refl));
      },
      tt,
    )

    module _ (e : Entry) (is : IsEntry e) (few : length H < most_records) (more : List ℕ) (parts : tail ≡ record_bytes e ++ more) where
      longer : IsFront (headed first (H ++ e ∷ []))
      longer = (s.right.0, append_all IsEntry H (e ∷ []) s.right.1 (is, tt), omega (arith, few, length-append H (e ∷ [])))

      further : bytes ≡ front_bytes (headed first (H ++ e ∷ [])) ++ more
      further =
          s.parts
          ∙ ap (λ (t : List ℕ). front_bytes (headed first H) ++ t) parts
          ∙ sym (append_assoc (front_bytes (headed first H)) (record_bytes e) more)
          ∙ ap (λ (t : List ℕ). t ++ more) (append_assoc (header_bytes first) (flat_map record_bytes H) (record_bytes e) ∙ ap (λ (t : List ℕ). header_bytes first ++ t) (sym (records_more H e)))

      found_other : Judges mode → e.reply ≢ reply_to seed (state_after seed first H) e → Found
      found_other judges other = (
        differing first H e,
        Some more,
        record { judges = judges; right = longer; legal = judged_fact mode (Legal seed first H) judges s.sound; other = other; read = further },
        tt,
      )

      stood_more : Judged mode (e.reply ≡ reply_to seed (state_after seed first H) e) → Stood first (H ++ e ∷ []) more
      stood_more same = record { right = longer; sound = judged_more mode seed first H e is s.sound same; parts = further }

      found_record : (Stood first (H ++ e ∷ []) more → Found) → Found
      found_record go_on =
          elim (compared mode e.reply (reply_to seed (state_after seed first H) e)) [
            | inl same ↦ go_on (stood_more same)
            | inr other ↦ found_other other.0 other.1
          ]

  -- a part stands there
  found_part : (limit first : ℕ) (H : List Entry) (tail : List ℕ) → Stood first H tail → length tail < suc limit
      → ((K : List Entry) (rest : List ℕ) → Stood first K rest → length rest < limit → Found)
      → (part more : List ℕ) → IsPart (behind (length H)) part → tail ≡ part ++ more → Found
  found_part limit first H tail s short go_on part more is parts =
      elim (is_behind (length H) part is) [
        | inl it ↦ (
            let e = it.1.0 in
            let at : tail ≡ record_bytes e ++ more = parts ∙ ap (λ (t : List ℕ). t ++ more) it.1.2 in
            let less : length more < limit = omega (arith, short, ap length at, length-append (record_bytes e) more, record_length e) in
            found_record first H tail s e it.1.1 it.0 more at (λ stood. go_on (H ++ e ∷ []) more stood less)
            )
        | inr end ↦ found_end first H tail s more (parts ∙ ap (λ (t : List ℕ). t ++ more) end)
      ]

  found_there : (limit first : ℕ) (H : List Entry) (tail : List ℕ) → Stood first H tail → length tail < suc limit
      → ((K : List Entry) (rest : List ℕ) → Stood first K rest → length rest < limit → Found) → Standing (behind (length H)) tail → Found
  found_there limit first H tail s short go_on (stands part more is parts) = found_part limit first H tail s short go_on part more is parts
  found_there limit first H tail s short go_on (cut_off cut) = found_short first H tail s cut
  found_there limit first H tail s short go_on (no_part none) = found_wrong first H tail s none

  -- from there on, where what stands there is shorter than so much
  walk : (limit first : ℕ) (H : List Entry) (tail : List ℕ) → Stood first H tail → length tail < limit → Found
  walk zero first H tail s less = absurd (omega (arith, less))
  walk (suc limit) first H tail s less =
      found_there limit first H tail s less (λ K rest stood shorter. walk limit first K rest stood shorter) (behind_records (length H) tail)

  found_header : (part more : List ℕ) → IsPart at_front part → bytes ≡ part ++ more → Found
  found_header part more is parts =
      let h = is_header part is in
      walk (suc (length more)) h.0 [] more
      (record {
        right = (h.1, tt, omega arith);
        sound = fact_judged mode (Legal seed h.0 []) (record { entries = tt; replied = refl });
        parts = parts ∙ ap (λ (t : List ℕ). t ++ more) (h.2 ∙ sym (append-nil (header_bytes h.0)));
      }) (omega arith)

  found_at_front : Standing at_front bytes → Found
  found_at_front (stands part more is parts) = found_header part more is parts
  found_at_front (cut_off cut) = (
    faulty nothing (Truncated 0),
    Some [],
    record { right = tt; sound = tt; left = Some bytes; read = refl; stops = (bytes, sym (append-nil bytes), cut, refl, refl) },
    tt,
  )
  found_at_front (no_part none) = (
    faulty nothing (Malformed 0),
    Some [],
    record { right = tt; sound = tt; left = Some bytes; read = refl; stops = (bytes, sym (append-nil bytes), inl (none, refl)) },
    tt,
  )

  pub some_finding : Found
  some_finding = found_at_front (at_the_front bytes)
