-- Bytes are found to be one thing.
use Rattle.std.proofs.Common.{◌≡◌, ◌≢◌, ℕ, ◌<◌, ◌^◌, List, [], ◌∷◌, ◌++◌, length, drop, Option, Some, None, Result, Ok, Err, ◌⊎◌, inl, inr, refl, sym, ap, subst, ◌∙◌, append_assoc, append-nil, flat_map, arith}
use Rattle.std.specs.List.{AllByRecursion}
use Rattle.std.proofs.lemmas.List.{length-append}
use Rattle.std.specs.Io.KnownBytes.{Consumes, IsAtEnd}
use Rattle.dpe_model.specs.History.{Entry, IsEntry, Legal, reply_to, state_after}
use Rattle.dpe_model.specs.State.{start}
use Rattle.dpe_model.proofs.Runs.{rest_all, legal_front, legal_rest, legal_head}
use Rattle.dpe_journal.specs.Journal.{most_records, header_bytes, record_bytes, end_bytes, journal_bytes}
use Rattle.dpe_journal.specs.Reading.{StopsThere, ReadsPart}
use Rattle.dpe_journal.specs.Stages.{Stage, at_front, behind}
use Rattle.dpe_journal.specs.declared.records.Next.{Next}
use Rattle.dpe_journal.specs.declared.records.Next.TheVariants as nexts
use Rattle.dpe_journal.specs.declared.records.RecordFault.{RecordFault}
use Rattle.dpe_journal.specs.declared.records.RecordFault.TheVariants.{Malformed, Truncated, ReadFault}
use Rattle.dpe_journal.proofs.Answering.{same_answer}
use Rattle.dpe_journal.proofs.Bytes.{cut}
use Rattle.dpe_journal.proofs.Law.{same_64, same_record}
use Rattle.dpe_audit.specs.Finding.{Finding, whole, faulty, differing, begun, Finds, FindsWhole, FindsFault, FindsDifference}
use Rattle.dpe_audit.specs.Front.{Front, nothing, headed, front_bytes, stage_of, IsFront}
use Rattle.dpe_audit.specs.Mode.{Mode, check, live, list, connection, Judged, Judges}
use Rattle.dpe_audit.specs.Replay.{IsOfBytes, IsVerdict}

-- ## Entries at the front of the same bytes

abbrev records_of : List Entry → List ℕ
records_of H = flat_map record_bytes H

-- K goes on behind H, in the bytes that stand behind H
record Goes (H K : List Entry) (s t : List ℕ) : Type 0 where
  next : Entry
  more : List Entry
  is : K ≡ H ++ next ∷ more
  tail : s ≡ record_bytes next ++ (records_of more ++ t)

abbrev Compared : List Entry → List Entry → List ℕ → List ℕ → Type 0
Compared H K s t = ((H ≡ K) × (s ≡ t)) ⊎ (Goes H K s t ⊎ Goes K H t s)

goes_later : (x : Entry) (H K : List Entry) (s t : List ℕ) → Goes H K s t → Goes (x ∷ H) (x ∷ K) s t
goes_later x H K s t g = record { next = g.next; more = g.more; is = ap (λ (l : List Entry). x ∷ l) g.is; tail = g.tail }

compared_later : (x : Entry) (H K : List Entry) (s t : List ℕ) → Compared H K s t → Compared (x ∷ H) (x ∷ K) s t
compared_later x H K s t (inl same) = inl (ap (λ (l : List Entry). x ∷ l) same.0, same.1)
compared_later x H K s t (inr (inl g)) = inr (inl (goes_later x H K s t g))
compared_later x H K s t (inr (inr g)) = inr (inr (goes_later x K H t s g))

compare : (H K : List Entry) (s t : List ℕ) → AllByRecursion IsEntry H → AllByRecursion IsEntry K → records_of H ++ s ≡ records_of K ++ t → Compared H K s t
compare [] [] s t h k e = inl (refl, e)
compare [] (y ∷ K) s t h k e = inr (inl (record { next = y; more = K; is = refl; tail = e ∙ append_assoc (record_bytes y) (records_of K) t }))
compare (x ∷ H) [] s t h k e = inr (inr (record { next = x; more = H; is = refl; tail = sym e ∙ append_assoc (record_bytes x) (records_of H) s }))
compare (x ∷ H) (y ∷ K) s t h k e =
    let same = same_record x y (records_of H ++ s) (records_of K ++ t) h.0 k.0
    (sym (append_assoc (record_bytes x) (records_of H) s) ∙ (e ∙ append_assoc (record_bytes y) (records_of K) t)) in
    subst (λ (z : Entry). Compared (x ∷ H) (z ∷ K) s t) same.0 (compared_later x H K s t (compare H K s t h.1 k.1 same.1))

-- the list before the last, and the last
same_last : (H K : List Entry) (x y : Entry) → H ++ x ∷ [] ≡ K ++ y ∷ [] → (H ≡ K) × (x ≡ y)
same_last [] [] x y e = let p : x ≡ y = cc in (refl, p)
same_last [] (k ∷ K) x y e = let n : 1 ≡ length (k ∷ (K ++ y ∷ [])) = ap length e in absurd (omega (arith, n, length-append K (y ∷ [])))
same_last (h ∷ H) [] x y e = let n : length (h ∷ (H ++ x ∷ [])) ≡ 1 = ap length e in absurd (omega (arith, n, length-append H (x ∷ [])))
same_last (h ∷ H) (k ∷ K) x y e =
    let head : h ≡ k = cc in
    let later : H ++ x ∷ [] ≡ K ++ y ∷ [] = cc in
    let same = same_last H K x y later in
    (ap (λ (z : Entry). z ∷ H) head ∙ ap (λ (l : List Entry). k ∷ l) same.0, same.1)

-- what stands before an entry of a list stands before the last of it, or is all before it
before_last : (H K more : List Entry) (x y : Entry) → H ++ x ∷ [] ≡ K ++ y ∷ more → (rest : List Entry) × (H ≡ K ++ rest)
before_last H [] more x y e = (H, refl)
before_last [] (k ∷ K) more x y e = let n : 1 ≡ length (k ∷ (K ++ y ∷ more)) = ap length e in absurd (omega (arith, n, length-append K (y ∷ more)))
before_last (h ∷ H) (k ∷ K) more x y e =
    let head : h ≡ k = cc in
    let later : H ++ x ∷ [] ≡ K ++ y ∷ more = cc in
    let p = before_last H K more x y later in
    (p.0, ap (λ (z : Entry). z ∷ H) head ∙ ap (λ (l : List Entry). k ∷ l) p.1)

-- ## Legal histories

legal_at : (seed : List ℕ) (first : ℕ) (H more : List Entry) (e : Entry) → Legal seed first (H ++ e ∷ more) → e.reply ≡ reply_to seed (state_after seed first H) e
legal_at seed first H more e h = legal_head seed (state_after seed first H) e more (legal_rest seed (start first) H (e ∷ more) h)

judged_front : (mode : Mode) (seed : List ℕ) (first : ℕ) (H more : List Entry) → Judged mode (Legal seed first (H ++ more)) → Judged mode (Legal seed first H)
judged_front check seed first H more h = legal_front seed (start first) H more h
judged_front live seed first H more h = legal_front seed (start first) H more h
judged_front list seed first H more h = tt
judged_front (connection caller number) seed first H more h = tt

pub judged_fact : (mode : Mode) (P : Type 0) → Judges mode → Judged mode P → P
judged_fact check P j h = h
judged_fact live P j h = h
judged_fact list P j h = absurd j
judged_fact (connection caller number) P j h = absurd j

pub fact_judged : (mode : Mode) (P : Type 0) → P → Judged mode P
fact_judged check P h = h
fact_judged live P h = h
fact_judged list P h = tt
fact_judged (connection caller number) P h = tt

-- ## One answer where a part stands

abbrev Answer : Type 0
Answer = Result Next RecordFault

abbrev failed : RecordFault → Answer
failed fault = Err fault

of_bytes : (fault : RecordFault) → IsOfBytes fault → failed fault ≢ Err ReadFault
of_bytes (Malformed place) is e = cc
of_bytes (Truncated place) is e = cc
of_bytes ReadFault is e = absurd is

abbrev took : Next → Answer
took next = Ok next

no_fault : (next : Next) → took next ≢ Err ReadFault
no_fault next e = cc

-- a record stands there
record_reads : (records at : ℕ) (e : Entry) (s x : List ℕ) → records < most_records → IsEntry e → s ≡ record_bytes e ++ x → ReadsPart (Some s) (Some x) (behind records) at e (Ok nexts.Entry)
record_reads records at e s x few is parts = record { right = (few, is); taken = parts; ends = tt }

-- the end stands there, and nothing more
end_reads : (records at : ℕ) (e : Entry) (s : List ℕ) → s ≡ end_bytes records → ReadsPart (Some s) (Some []) (behind records) at e (Ok (nexts.End records))
end_reads records at e s is = record { right = refl; taken = is ∙ sym (append-nil (end_bytes records)); ends = refl }

header_reads : (first at : ℕ) (e : Entry) (s x : List ℕ) → first < 2 ^ 64 → s ≡ header_bytes first ++ x → ReadsPart (Some s) (Some x) at_front at e (Ok (nexts.Header first))
header_reads first at e s x range parts = record { right = range; taken = parts; ends = tt }

any_entry : Entry
any_entry = record { caller = 0; connection = 0; index = 0; locality = 0; random = []; payload = []; reply = [] }

record_no_end : (records : ℕ) (e : Entry) (s x : List ℕ) → records < most_records → IsEntry e → s ≡ record_bytes e ++ x → s ≡ end_bytes records → ⊥
record_no_end records e s x few is parts end =
    let same = same_answer (behind records) 0 s (Some x) (Some []) e e (Ok nexts.Entry) (Ok (nexts.End records))
    (record_reads records 0 e s x few is parts) (end_reads records 0 e s end) (no_fault nexts.Entry) (no_fault (nexts.End records)) in
    let no : nexts.Entry ≡ nexts.End records = same.0 in cc

record_no_fault : (records at : ℕ) (e : Entry) (s x : List ℕ) (left : Option (List ℕ)) (fault : RecordFault) → records < most_records → IsEntry e → s ≡ record_bytes e ++ x
    → StopsThere (Some s) left (behind records) at fault → IsOfBytes fault → ⊥
record_no_fault records at e s x left fault few is parts stops bytes =
    same_answer (behind records) at s (Some x) left e e (Ok nexts.Entry) (Err fault) (record_reads records at e s x few is parts) stops (no_fault nexts.Entry) (of_bytes fault bytes)

end_no_fault : (records at : ℕ) (s : List ℕ) (left : Option (List ℕ)) (fault : RecordFault) → s ≡ end_bytes records → StopsThere (Some s) left (behind records) at fault → IsOfBytes fault → ⊥
end_no_fault records at s left fault end stops bytes =
    same_answer (behind records) at s (Some []) left any_entry any_entry (Ok (nexts.End records)) (Err fault) (end_reads records at any_entry s end) stops (no_fault (nexts.End records)) (of_bytes fault bytes)

header_no_fault : (first at : ℕ) (s x : List ℕ) (left : Option (List ℕ)) (fault : RecordFault) → first < 2 ^ 64 → s ≡ header_bytes first ++ x → StopsThere (Some s) left at_front at fault → IsOfBytes fault → ⊥
header_no_fault first at s x left fault range parts stops bytes =
    same_answer at_front at s (Some x) left any_entry any_entry (Ok (nexts.Header first)) (Err fault) (header_reads first at any_entry s x range parts) stops (no_fault (nexts.Header first)) (of_bytes fault bytes)

same_fault : (stage : Stage) (at : ℕ) (s : List ℕ) (left other : Option (List ℕ)) (fault answer : RecordFault) → StopsThere (Some s) left stage at fault → StopsThere (Some s) other stage at answer
    → IsOfBytes fault → IsOfBytes answer → fault ≡ answer
same_fault stage at s left other fault answer stops halts f a =
    same_answer stage at s left other any_entry any_entry (Err fault) (Err answer) stops halts (of_bytes fault f) (of_bytes answer a)

-- ## What a finding says of where it ends

consumed : (bytes front : List ℕ) (left : Option (List ℕ)) → Consumes (Some bytes) left front → (rest : List ℕ) × (left ≡ Some rest) × (bytes ≡ front ++ rest)
consumed bytes front None c = absurd c
consumed bytes front (Some rest) c = (rest, refl, c)

-- The bytes begin with this header and these entries. Before each of them those before are sound; and where all are, no
-- record stands behind them.
record Stands (mode : Mode) (seed bytes : List ℕ) (first : ℕ) (H : List Entry) (tail : List ℕ) : Type 0 where
  right : IsFront (headed first H)
  parts : bytes ≡ header_bytes first ++ (records_of H ++ tail)
  before : (K more : List Entry) (e : Entry) → H ≡ K ++ e ∷ more → Judged mode (Legal seed first K)
  blocks : (e : Entry) (x : List ℕ) → IsEntry e → length H < most_records → tail ≡ record_bytes e ++ x → Judged mode (Legal seed first H) → ⊥

module _ (mode : Mode) (seed bytes : List ℕ) where
  stands_whole : (left : Option (List ℕ)) (first : ℕ) (H : List Entry) → FindsWhole mode seed (Some bytes) left first H → Stands mode seed bytes first H (end_bytes (length H))
  stands_whole left first H f =
      let c = consumed bytes (journal_bytes first H) left f.read in
      let none : c.0 ≡ [] = subst IsAtEnd c.1 f.at_end in
      record {
        right = f.right;
        parts = c.2 ∙ ap (λ (t : List ℕ). journal_bytes first H ++ t) none ∙ append-nil (journal_bytes first H);
        before = λ K more e is. judged_front mode seed first K (e ∷ more) (subst (λ (l : List Entry). Judged mode (Legal seed first l)) is f.sound);
        blocks = λ e x is few tail sound. record_no_end (length H) e (end_bytes (length H)) x few is tail refl;
      }

  stands_fault : (left : Option (List ℕ)) (first : ℕ) (H : List Entry) (fault : RecordFault) → FindsFault mode seed (Some bytes) left (headed first H) fault → IsOfBytes fault
      → (tail : List ℕ) × Stands mode seed bytes first H tail × StopsThere (Some tail) left (behind (length H)) (length (front_bytes (headed first H))) fault
  stands_fault left first H fault f is =
      let c = consumed bytes (front_bytes (headed first H)) f.left f.read in
      let stops : StopsThere (Some c.0) left (behind (length H)) (length (front_bytes (headed first H))) fault =
      subst (λ (o : Option (List ℕ)). StopsThere o left (behind (length H)) (length (front_bytes (headed first H))) fault) c.1 f.stops in (
        c.0,
        record {
          right = f.right;
          parts = c.2 ∙ append_assoc (header_bytes first) (records_of H) c.0;
          before = λ K more e at. judged_front mode seed first K (e ∷ more) (subst (λ (l : List Entry). Judged mode (Legal seed first l)) at f.sound);
          blocks = λ e x entry few tail sound. record_no_fault (length H) (length (front_bytes (headed first H))) e c.0 x left fault few entry tail stops is;
        },
        stops,
      )

  stands_other : (left : Option (List ℕ)) (first : ℕ) (H : List Entry) (e : Entry) → FindsDifference mode seed (Some bytes) left first H e
      → (tail : List ℕ) × Stands mode seed bytes first (H ++ e ∷ []) tail
  stands_other left first H e f =
      let c = consumed bytes (front_bytes (headed first (H ++ e ∷ []))) left f.read in (
        c.0,
        record {
          right = f.right;
          parts = c.2 ∙ append_assoc (header_bytes first) (records_of (H ++ e ∷ [])) c.0;
          before = λ K more y at.
              let p = before_last H K more e y at in
              fact_judged mode (Legal seed first K) (legal_front seed (start first) K p.0 (subst (λ (l : List Entry). Legal seed first l) p.1 f.legal));
          blocks = λ y x entry few tail sound. f.other (legal_at seed first H [] e (judged_fact mode (Legal seed first (H ++ e ∷ [])) f.judges sound));
        },
      )

  same_header : (first other : ℕ) (H K : List Entry) (s t : List ℕ) → Stands mode seed bytes first H s → Stands mode seed bytes other K t
      → (first ≡ other) × (records_of H ++ s ≡ records_of K ++ t)
  same_header first other H K s t a b =
      let c = cut (header_bytes first) (header_bytes other) (records_of H ++ s) (records_of K ++ t) refl (sym a.parts ∙ b.parts) in
      (same_64 first other a.right.0 b.right.0 (ap (drop 5) c.0), c.1)

  -- none goes on behind the other
  not_longer : (first : ℕ) (H K : List Entry) (s t : List ℕ) → Stands mode seed bytes first H s → Stands mode seed bytes first K t → Goes H K s t → ⊥
  not_longer first H K s t a b g =
      let all = rest_all IsEntry H (g.next ∷ g.more) (subst (λ (l : List Entry). AllByRecursion IsEntry l) g.is b.right.1) in
      let few : length H < most_records = omega (arith, b.right.2, ap length g.is, length-append H (g.next ∷ g.more)) in
      a.blocks g.next (records_of g.more ++ t) all.0 few g.tail (b.before H g.more g.next g.is)

  same_place : (first other : ℕ) (H K : List Entry) (s t : List ℕ) → Stands mode seed bytes first H s → Stands mode seed bytes other K t
      → (first ≡ other) × (H ≡ K) × (s ≡ t)
  same_place first other H K s t a b =
      let head = same_header first other H K s t a b in
      let c : Stands mode seed bytes first K t = subst (λ n. Stands mode seed bytes n K t) (sym head.0) b in
      elim (compare H K s t a.right.1 b.right.1 head.1) [
        | inl same ↦ (head.0, same.0, same.1)
        | inr longer ↦ elim longer [ inl g ↦ absurd (not_longer first H K s t a c g) | inr g ↦ absurd (not_longer first K H t s c a g) ]
      ]

  -- ## Two findings

  whole_whole : (left other : Option (List ℕ)) (first second : ℕ) (H K : List Entry) → FindsWhole mode seed (Some bytes) left first H → FindsWhole mode seed (Some bytes) other second K → whole first H ≡ whole second K
  whole_whole left other first second H K f g =
      let same = same_place first second H K (end_bytes (length H)) (end_bytes (length K)) (stands_whole left first H f) (stands_whole other second K g) in
      ap (λ n. whole n H) same.0 ∙ ap (λ (l : List Entry). whole second l) same.1

  whole_fault : (left other : Option (List ℕ)) (first second : ℕ) (H K : List Entry) (fault : RecordFault) → FindsWhole mode seed (Some bytes) left first H
      → FindsFault mode seed (Some bytes) other (headed second K) fault → IsOfBytes fault → ⊥
  whole_fault left other first second H K fault f g is =
      let b = stands_fault other second K fault g is in
      let same = same_place first second H K (end_bytes (length H)) b.0 (stands_whole left first H f) b.1 in
      end_no_fault (length K) (length (front_bytes (headed second K))) b.0 other fault (sym same.2 ∙ ap (λ (l : List Entry). end_bytes (length l)) same.1) b.2 is

  sound_other : (other : Option (List ℕ)) (first second : ℕ) (H K : List Entry) (s : List ℕ) (e : Entry) → Stands mode seed bytes first H s → Judged mode (Legal seed first H)
      → FindsDifference mode seed (Some bytes) other second K e → ⊥
  sound_other other first second H K s e a sound g =
      let b = stands_other other second K e g in
      let same = same_place first second H (K ++ e ∷ []) s b.0 a b.1 in
      let legal : Legal seed second (K ++ e ∷ []) = judged_fact mode (Legal seed second (K ++ e ∷ [])) g.judges
      (subst (λ n. Judged mode (Legal seed n (K ++ e ∷ []))) same.0 (subst (λ (l : List Entry). Judged mode (Legal seed first l)) same.1 sound)) in
      g.other (legal_at seed second K [] e legal)

  fault_fault : (left other : Option (List ℕ)) (first second : ℕ) (H K : List Entry) (fault answer : RecordFault) → FindsFault mode seed (Some bytes) left (headed first H) fault
      → FindsFault mode seed (Some bytes) other (headed second K) answer → IsOfBytes fault → IsOfBytes answer → faulty (headed first H) fault ≡ faulty (headed second K) answer
  fault_fault left other first second H K fault answer f g is of =
      let a = stands_fault left first H fault f is in
      let b = stands_fault other second K answer g of in
      let same = same_place first second H K a.0 b.0 a.1 b.1 in
      let front : headed first H ≡ headed second K = ap (λ n. headed n H) same.0 ∙ ap (λ (l : List Entry). headed second l) same.1 in
      let there : StopsThere (Some b.0) left (behind (length K)) (length (front_bytes (headed second K))) fault =
      subst (λ (x : Front). StopsThere (Some b.0) left (stage_of x) (length (front_bytes x)) fault) front
      (subst (λ (t : List ℕ). StopsThere (Some t) left (behind (length H)) (length (front_bytes (headed first H))) fault) same.2 a.2) in
      ap (λ (x : Front). faulty x fault) front
      ∙ ap (λ (x : RecordFault). faulty (headed second K) x) (same_fault (behind (length K)) (length (front_bytes (headed second K))) b.0 left other fault answer there b.2 is of)

  other_other : (left other : Option (List ℕ)) (first second : ℕ) (H K : List Entry) (d e : Entry) → FindsDifference mode seed (Some bytes) left first H d
      → FindsDifference mode seed (Some bytes) other second K e → differing first H d ≡ differing second K e
  other_other left other first second H K d e f g =
      let a = stands_other left first H d f in
      let b = stands_other other second K e g in
      let same = same_place first second (H ++ d ∷ []) (K ++ e ∷ []) a.0 b.0 a.1 b.1 in
      let last = same_last H K d e same.1 in
      ap (λ n. differing n H d) same.0 ∙ ap (λ (l : List Entry). differing second l d) last.0 ∙ ap (λ (x : Entry). differing second K x) last.1

  -- no header is found where one stands
  fault_at_front : (left : Option (List ℕ)) (fault : RecordFault) → FindsFault mode seed (Some bytes) left nothing fault → StopsThere (Some bytes) left at_front 0 fault
  fault_at_front left fault f =
      let c = consumed bytes [] f.left f.read in
      subst (λ (t : List ℕ). StopsThere (Some t) left at_front 0 fault) (sym c.2) (subst (λ (o : Option (List ℕ)). StopsThere o left at_front 0 fault) c.1 f.stops)

  no_header : (left : Option (List ℕ)) (fault : RecordFault) (first : ℕ) (H : List Entry) (s : List ℕ) → FindsFault mode seed (Some bytes) left nothing fault → IsOfBytes fault
      → Stands mode seed bytes first H s → ⊥
  no_header left fault first H s f is a = header_no_fault first 0 bytes (records_of H ++ s) left fault a.right.0 a.parts (fault_at_front left fault f) is

  no_header_twice : (left other : Option (List ℕ)) (fault answer : RecordFault) → FindsFault mode seed (Some bytes) left nothing fault → FindsFault mode seed (Some bytes) other nothing answer
      → IsOfBytes fault → IsOfBytes answer → faulty nothing fault ≡ faulty nothing answer
  no_header_twice left other fault answer f g is of =
      ap (λ (x : RecordFault). faulty nothing x) (same_fault at_front 0 bytes left other fault answer (fault_at_front left fault f) (fault_at_front other answer g) is of)

  faults_alike : (left other : Option (List ℕ)) (front behind_it : Front) (fault answer : RecordFault) → FindsFault mode seed (Some bytes) left front fault
      → FindsFault mode seed (Some bytes) other behind_it answer → IsOfBytes fault → IsOfBytes answer → faulty front fault ≡ faulty behind_it answer
  faults_alike left other nothing nothing fault answer f g is of = no_header_twice left other fault answer f g is of
  faults_alike left other nothing (headed first H) fault answer f g is of = absurd (no_header left fault first H _ f is (stands_fault other first H answer g of).1)
  faults_alike left other (headed first H) nothing fault answer f g is of = absurd (no_header other answer first H _ g of (stands_fault left first H fault f is).1)
  faults_alike left other (headed first H) (headed second K) fault answer f g is of = fault_fault left other first second H K fault answer f g is of

  whole_no_fault : (left other : Option (List ℕ)) (first : ℕ) (H : List Entry) (front : Front) (fault : RecordFault) → FindsWhole mode seed (Some bytes) left first H
      → FindsFault mode seed (Some bytes) other front fault → IsOfBytes fault → ⊥
  whole_no_fault left other first H nothing fault f g is = no_header other fault first H (end_bytes (length H)) g is (stands_whole left first H f)
  whole_no_fault left other first H (headed second K) fault f g is = whole_fault left other first second H K fault f g is

  whole_no_other : (left other : Option (List ℕ)) (first second : ℕ) (H K : List Entry) (e : Entry) → FindsWhole mode seed (Some bytes) left first H
      → FindsDifference mode seed (Some bytes) other second K e → ⊥
  whole_no_other left other first second H K e f g = sound_other other first second H K (end_bytes (length H)) e (stands_whole left first H f) f.sound g

  fault_no_other : (left other : Option (List ℕ)) (front : Front) (second : ℕ) (K : List Entry) (fault : RecordFault) (e : Entry) → FindsFault mode seed (Some bytes) left front fault
      → IsOfBytes fault → FindsDifference mode seed (Some bytes) other second K e → ⊥
  fault_no_other left other nothing second K fault e f is g = let b = stands_other other second K e g in no_header left fault second (K ++ e ∷ []) b.0 f is b.1
  fault_no_other left other (headed first H) second K fault e f is g =
      let a = stands_fault left first H fault f is in sound_other other first second H K a.0 e a.1 f.sound g

  pub one_finding : (left other : Option (List ℕ)) (f g : Finding) → Finds mode seed (Some bytes) left f → Finds mode seed (Some bytes) other g → IsVerdict f → IsVerdict g → f ≡ g
  one_finding left other (whole first H) (whole second K) f g v w = whole_whole left other first second H K f g
  one_finding left other (whole first H) (faulty front fault) f g v w = absurd (whole_no_fault left other first H front fault f g w)
  one_finding left other (whole first H) (differing second K e) f g v w = absurd (whole_no_other left other first second H K e f g)
  one_finding left other (whole first H) (begun front) f g v w = absurd w
  one_finding left other (faulty front fault) (whole second K) f g v w = absurd (whole_no_fault other left second K front fault g f v)
  one_finding left other (faulty front fault) (faulty behind_it answer) f g v w = faults_alike left other front behind_it fault answer f g v w
  one_finding left other (faulty front fault) (differing second K e) f g v w = absurd (fault_no_other left other front second K fault e f v g)
  one_finding left other (faulty front fault) (begun behind_it) f g v w = absurd w
  one_finding left other (differing first H d) (whole second K) f g v w = absurd (whole_no_other other left second first K H d g f)
  one_finding left other (differing first H d) (faulty front fault) f g v w = absurd (fault_no_other other left front first H fault d g w f)
  one_finding left other (differing first H d) (differing second K e) f g v w = other_other left other first second H K d e f g
  one_finding left other (differing first H d) (begun front) f g v w = absurd w
  one_finding left other (begun front) g f h v w = absurd v
