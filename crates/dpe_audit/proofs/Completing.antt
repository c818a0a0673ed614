-- Right words and files, and no fault, give the status of what the bytes are found to be.
use Rattle.std.proofs.Common.{◌≡◌, ◌≢◌, ℕ, ◌<◌, List, [], ◌∷◌, length, Option, Some, None, ◌⊎◌, inl, inr, refl, sym, ap, subst, ◌∙◌, arith}
use Rattle.std.proofs.lemmas.Fmt.{decimal_injective}
use Rattle.dpe_io.specs.Causes.{Rose}
use Rattle.dpe_io.specs.Told.{Kind, IfTold}
use Rattle.dpe_journal.specs.declared.records.RecordFault.{RecordFault}
use Rattle.dpe_journal.specs.declared.records.RecordFault.TheVariants.{Malformed, Truncated, ReadFault}
use Rattle.dpe_audit.specs.Audit.{Tells}
use Rattle.dpe_audit.specs.Finding.{Finding, whole, faulty, differing, begun, Finds, status_of, fault_status}
use Rattle.dpe_audit.specs.Mode.{Mode, check, live, list, connection, Judges}
use Rattle.dpe_audit.specs.Replay.{status_at, SameCounts, CountRose, TakesSeed, Replays, RunEnds, TellsFiles, HasRunCause, IsOfBytes, IsVerdict}
use Rattle.dpe_audit.specs.Shelves.{Lends, HasSeed, HasWrongSize}
use Rattle.dpe_audit.specs.Words.{IsRequest, NamesConnection}
use Rattle.dpe_audit.specs.declared.audit.End.{End}
use Rattle.dpe_audit.specs.declared.audit.End.TheVariants as ends
use Rattle.dpe_audit.proofs.OneThing.{one_finding}

-- ## The words ask for one thing

abbrev first_length : List (List ℕ) → ℕ
first_length [] = 0
first_length (word ∷ words) = length word

abbrev third : List (List ℕ) → List ℕ
third (a ∷ b ∷ c ∷ words) = c
third _ = []

abbrev fourth : List (List ℕ) → List ℕ
fourth (a ∷ b ∷ c ∷ d ∷ words) = d
fourth _ = []

unlike : (words others : List (List ℕ)) (n m : ℕ) → words ≡ others → first_length words ≡ n → first_length others ≡ m → n ≢ m → ⊥
unlike words others n m e a b ne = ne (sym a ∙ ap first_length e ∙ b)

fewer : (words others : List (List ℕ)) → words ≡ others → length words ≢ length others → ⊥
fewer words others e ne = ne (ap length e)

unequal : (n m : ℕ) → n < m → n ≢ m
unequal n m less e = omega (arith, less, e)

same_numbers : (words : List (List ℕ)) (a b c d : ℕ) → NamesConnection words a b → NamesConnection words c d → connection a b ≡ connection c d
same_numbers words a b c d p q =
    let form = sym p.form ∙ q.form in
    let one : a ≡ c = decimal_injective a c (omega (arith, p.below.0)) (omega (arith, q.below.0)) (ap third form) in
    let two : b ≡ d = decimal_injective b d (omega (arith, p.below.1)) (omega (arith, q.below.1)) (ap fourth form) in
    ap (λ n. connection n b) one ∙ ap (λ n. connection c n) two

pub same_request : (words : List (List ℕ)) (m n : Mode) → IsRequest words m → IsRequest words n → m ≡ n
same_request words check check p q = refl
same_request words check live p q = absurd (unlike _ _ 5 4 (sym p.form ∙ q.form) refl refl (λ e. unequal 4 5 (omega arith) (sym e)))
same_request words check list p q = absurd (fewer _ _ (sym p.form ∙ q.form) (λ e. unequal 2 3 (omega arith) (sym e)))
same_request words check (connection a b) p q = absurd (fewer _ _ (sym p.form ∙ q.form) (unequal 3 4 (omega arith)))
same_request words live check p q = absurd (unlike _ _ 4 5 (sym p.form ∙ q.form) refl refl (unequal 4 5 (omega arith)))
same_request words live live p q = refl
same_request words live list p q = absurd (fewer _ _ (sym p.form ∙ q.form) (λ e. unequal 2 3 (omega arith) (sym e)))
same_request words live (connection a b) p q = absurd (fewer _ _ (sym p.form ∙ q.form) (unequal 3 4 (omega arith)))
same_request words list check p q = absurd (fewer _ _ (sym p.form ∙ q.form) (unequal 2 3 (omega arith)))
same_request words list live p q = absurd (fewer _ _ (sym p.form ∙ q.form) (unequal 2 3 (omega arith)))
same_request words list list p q = refl
same_request words list (connection a b) p q = absurd (fewer _ _ (sym p.form ∙ q.form) (unequal 2 4 (omega arith)))
same_request words (connection a b) check p q = absurd (fewer _ _ (sym p.form ∙ q.form) (λ e. unequal 3 4 (omega arith) (sym e)))
same_request words (connection a b) live p q = absurd (fewer _ _ (sym p.form ∙ q.form) (λ e. unequal 3 4 (omega arith) (sym e)))
same_request words (connection a b) list p q = absurd (fewer _ _ (sym p.form ∙ q.form) (λ e. unequal 2 4 (omega arith) (sym e)))
same_request words (connection a b) (connection c d) p q = same_numbers words a b c d p q

-- ## The files that the shelf tells

opened_first : {T : Type 0} (o n : Option (List T)) (object first : T) (later : List T) → IfTold (λ xs ys. xs ≡ object ∷ ys) o n → o ≡ Some (first ∷ later)
    → (object ≡ first) × (n ≡ Some later)
opened_first None n object first later told is = cc
opened_first (Some xs) None object first later told is = absurd told
opened_first (Some xs) (Some ys) object first later told is =
    let same : object ∷ ys ≡ first ∷ later = let p : xs ≡ first ∷ later = cc in sym told ∙ p in
    let head : object ≡ first = cc in
    let tail : ys ≡ later = cc in
    (head, ap (λ l. Some l) tail)

module _ {T : Type 0} (left : T → Option (List ℕ)) (faults : T → ℕ) where
  lends_first : (old new : Kind T) (place : ℕ) (file after first : T) (later : List T) → Lends faults old place file after new → old.unopened ≡ Some (first ∷ later)
      → (file ≡ first) × (new.unopened ≡ Some later)
  lends_first old new place file after first later l is =
      let o = opened_first old.unopened l.lent.unopened file first later l.opens.next is in
      (o.0, l.back.unopened ∙ o.1)

  seed_told : (old mid : Kind T) (seed given : List ℕ) (first : T) (later : List T) → HasSeed left faults old mid given → old.unopened ≡ Some (first ∷ later) → left first ≡ Some seed
      → (given ≡ seed) × (mid.unopened ≡ Some later)
  seed_told old mid seed given first later h is told =
      let l = lends_first old mid 0 h.file h.after first later h.lends is in
      (sym (h.bytes seed (ap left l.0 ∙ told)), l.1)

  -- the journal is told, behind the seed
  abbrev JournalTold : List ℕ → Kind T → Type 0
  JournalTold bytes mid = (first : T) × (later : List T) × (mid.unopened ≡ Some (first ∷ later)) × (left first ≡ Some bytes)

  files_told : (mode : Mode) (seed bytes given : List ℕ) (old mid : Kind T) (place : ℕ) → TakesSeed left faults mode given old mid place → TellsFiles left mode seed bytes old.unopened
      → (given ≡ seed) × JournalTold bytes mid
  files_told check seed bytes given old mid place h t =
      let s = seed_told old mid seed given t.first (t.second ∷ t.later) h.0 t.told t.has_seed in (s.0, (t.second, t.later, s.1, t.has))
  files_told live seed bytes given old mid place h t =
      let s = seed_told old mid seed given t.first (t.second ∷ t.later) h.0 t.told t.has_seed in (s.0, (t.second, t.later, s.1, t.has))
  files_told list seed bytes given old mid place h t =
      (h.0 ∙ sym t.0, (t.1.first, t.1.later, ap (λ (k : Kind T). k.unopened) h.1 ∙ t.1.told, t.1.has))
  files_told (connection caller number) seed bytes given old mid place h t =
      (h.0 ∙ sym t.0, (t.1.first, t.1.later, ap (λ (k : Kind T). k.unopened) h.1 ∙ t.1.told, t.1.has))

  -- ## The status

  of_fault : (fault : RecordFault) (n : ℕ) → fault_status fault ≡ n → n ≢ 4 → IsOfBytes fault
  of_fault (Malformed place) n is ne = tt
  of_fault (Truncated place) n is ne = tt
  of_fault ReadFault n is ne = absurd (ne (sym is))

  verdict : (f : Finding) (n : ℕ) → status_of f ≡ n → n ≢ 4 → n ≢ 7 → IsVerdict f
  verdict (whole first H) n is four seven = tt
  verdict (faulty front fault) n is four seven = of_fault fault n is four
  verdict (differing first H e) n is four seven = tt
  verdict (begun front) n is four seven = absurd (seven (sym is))

  wrong_size : (mode : Mode) (seed bytes : List ℕ) (old new : Kind T) → TellsFiles left mode seed bytes old.unopened → Judges mode × HasWrongSize left faults old new
      → (Judges mode → length seed ≡ 32) → ⊥
  wrong_size check seed bytes old new t (judges, w) fits =
      let l = lends_first old new 0 w.file w.after t.first (t.second ∷ t.later) w.lends t.told in w.size seed (ap left l.0 ∙ t.has_seed) (fits tt)
  wrong_size live seed bytes old new t (judges, w) fits =
      let l = lends_first old new 0 w.file w.after t.first (t.second ∷ t.later) w.lends t.told in w.size seed (ap left l.0 ∙ t.has_seed) (fits tt)
  wrong_size list seed bytes old new t (judges, w) fits = absurd judges
  wrong_size (connection caller number) seed bytes old new t (judges, w) fits = absurd judges

  module _ (mode : Mode) (seed bytes : List ℕ) (old new : Kind T) (got_old got_new : Option (List ℕ)) (told : TellsFiles left mode seed bytes old.unopened)
      (rest : Option (List ℕ)) (finding : Finding) (finds : Finds mode seed (Some bytes) rest finding) (is_verdict : IsVerdict finding) where
    found_status : (end : End) (n : ℕ) (r : Replays left faults mode old new got_old got_new end)
        → Tells mode r.seed (left r.audits.file) (left r.audits.after) got_old got_new n → n ≢ 4 → n ≢ 7 → n ≡ status_of finding
    found_status end n r t four seven =
        let f = files_told mode seed bytes r.seed old r.mid r.place r.takes told in
        let l = lends_first r.mid new r.place r.audits.file r.audits.after f.1.0 f.1.1 r.audits.lends f.1.2 in
        let there : left r.audits.file ≡ Some bytes = ap left l.0 ∙ f.1.3 in
        let same : Finds mode seed (Some bytes) (left r.audits.after) t.finding =
        subst (λ (s : List ℕ). Finds mode s (Some bytes) (left r.audits.after) t.finding) f.0
        (subst (λ (o : Option (List ℕ)). Finds mode r.seed o (left r.audits.after) t.finding) there t.finds) in
        sym t.right ∙ ap status_of (one_finding mode seed bytes (left r.audits.after) rest t.finding finding same finds (verdict t.finding n t.right four seven) is_verdict)

    pub run_exact : (end : End) (writes written : ℕ) → RunEnds left faults mode old new got_old got_new end → HasRunCause end old new writes written
        → (Judges mode → length seed ≡ 32) → (CountRose old new → ⊥) → (Rose writes written → ⊥) → (status_at end ≡ status_of finding) ⊎ (status_at end ≡ 3)
    run_exact ends.Whole writes written r h size files sink = inl (found_status ends.Whole 0 r r.audits.ends (unequal 0 4 (omega arith)) (unequal 0 7 (omega arith)))
    run_exact ends.NoJournal writes written r h size files sink =
        inl (found_status ends.NoJournal 11 r r.audits.ends (λ e. unequal 4 11 (omega arith) (sym e)) (λ e. unequal 7 11 (omega arith) (sym e)))
    run_exact ends.Differs writes written r h size files sink =
        inl (found_status ends.Differs 12 r r.audits.ends (λ e. unequal 4 12 (omega arith) (sym e)) (λ e. unequal 7 12 (omega arith) (sym e)))
    run_exact ends.ReadFault writes written r h size files sink = absurd (files h.0)
    run_exact ends.WriteFault writes written r h size files sink = absurd (sink h)
    run_exact ends.NoMemory writes written r h size files sink = inr refl
    run_exact ends.WrongSeed writes written r h size files sink = absurd (wrong_size mode seed bytes old new told r size)

  -- a seed of another length
  takes_32 : (mode : Mode) (seed given : List ℕ) (old mid : Kind T) (place : ℕ) (first : T) (later : List T) → Judges mode → TakesSeed left faults mode given old mid place
      → old.unopened ≡ Some (first ∷ later) → left first ≡ Some seed → length seed ≡ 32
  takes_32 check seed given old mid place first later j (h, one) is told = let s = seed_told old mid seed given first later h is told in ap length (sym s.0) ∙ h.size
  takes_32 live seed given old mid place first later j (h, one) is told = let s = seed_told old mid seed given first later h is told in ap length (sym s.0) ∙ h.size
  takes_32 list seed given old mid place first later j t is told = absurd j
  takes_32 (connection caller number) seed given old mid place first later j t is told = absurd j

  module _ (mode : Mode) (seed : List ℕ) (old new : Kind T) (got_old got_new : Option (List ℕ)) (first : T) (later : List T) (judges : Judges mode)
      (is : old.unopened ≡ Some (first ∷ later)) (told : left first ≡ Some seed) (other : length seed ≢ 32) where
    not_taken : (end : End) → Replays left faults mode old new got_old got_new end → ⊥
    not_taken end r = other (takes_32 mode seed r.seed old r.mid r.place first later judges r.takes is told)

    pub run_wrong : (end : End) (writes written : ℕ) → RunEnds left faults mode old new got_old got_new end → HasRunCause end old new writes written → (CountRose old new → ⊥) → status_at end ≡ 8
    run_wrong ends.Whole writes written r h files = absurd (not_taken ends.Whole r)
    run_wrong ends.NoJournal writes written r h files = absurd (not_taken ends.NoJournal r)
    run_wrong ends.Differs writes written r h files = absurd (not_taken ends.Differs r)
    run_wrong ends.ReadFault writes written r h files = absurd (files h.0)
    run_wrong ends.WriteFault writes written r h files = absurd (not_taken ends.WriteFault r)
    run_wrong ends.NoMemory writes written r h files = absurd (not_taken ends.NoMemory r)
    run_wrong ends.WrongSeed writes written r h files = refl

-- ## The end of a status

pub at_whole : (end : End) → status_at end ≡ 0 → end ≡ ends.Whole
at_whole ends.Whole e = refl
at_whole ends.NoJournal e = absurd (omega (arith, e))
at_whole ends.Differs e = absurd (omega (arith, e))
at_whole ends.ReadFault e = absurd (omega (arith, e))
at_whole ends.WriteFault e = absurd (omega (arith, e))
at_whole ends.NoMemory e = absurd (omega (arith, e))
at_whole ends.WrongSeed e = absurd (omega (arith, e))

pub at_no_journal : (end : End) → status_at end ≡ 11 → end ≡ ends.NoJournal
at_no_journal ends.Whole e = absurd (omega (arith, e))
at_no_journal ends.NoJournal e = refl
at_no_journal ends.Differs e = absurd (omega (arith, e))
at_no_journal ends.ReadFault e = absurd (omega (arith, e))
at_no_journal ends.WriteFault e = absurd (omega (arith, e))
at_no_journal ends.NoMemory e = absurd (omega (arith, e))
at_no_journal ends.WrongSeed e = absurd (omega (arith, e))

pub at_differs : (end : End) → status_at end ≡ 12 → end ≡ ends.Differs
at_differs ends.Whole e = absurd (omega (arith, e))
at_differs ends.NoJournal e = absurd (omega (arith, e))
at_differs ends.Differs e = refl
at_differs ends.ReadFault e = absurd (omega (arith, e))
at_differs ends.WriteFault e = absurd (omega (arith, e))
at_differs ends.NoMemory e = absurd (omega (arith, e))
at_differs ends.WrongSeed e = absurd (omega (arith, e))

pub at_read_fault : (end : End) → status_at end ≡ 4 → end ≡ ends.ReadFault
at_read_fault ends.Whole e = absurd (omega (arith, e))
at_read_fault ends.NoJournal e = absurd (omega (arith, e))
at_read_fault ends.Differs e = absurd (omega (arith, e))
at_read_fault ends.ReadFault e = refl
at_read_fault ends.WriteFault e = absurd (omega (arith, e))
at_read_fault ends.NoMemory e = absurd (omega (arith, e))
at_read_fault ends.WrongSeed e = absurd (omega (arith, e))

pub at_write_fault : (end : End) → status_at end ≡ 7 → end ≡ ends.WriteFault
at_write_fault ends.Whole e = absurd (omega (arith, e))
at_write_fault ends.NoJournal e = absurd (omega (arith, e))
at_write_fault ends.Differs e = absurd (omega (arith, e))
at_write_fault ends.ReadFault e = absurd (omega (arith, e))
at_write_fault ends.WriteFault e = refl
at_write_fault ends.NoMemory e = absurd (omega (arith, e))
at_write_fault ends.WrongSeed e = absurd (omega (arith, e))

pub at_no_memory : (end : End) → status_at end ≡ 3 → end ≡ ends.NoMemory
at_no_memory ends.Whole e = absurd (omega (arith, e))
at_no_memory ends.NoJournal e = absurd (omega (arith, e))
at_no_memory ends.Differs e = absurd (omega (arith, e))
at_no_memory ends.ReadFault e = absurd (omega (arith, e))
at_no_memory ends.WriteFault e = absurd (omega (arith, e))
at_no_memory ends.NoMemory e = refl
at_no_memory ends.WrongSeed e = absurd (omega (arith, e))

pub at_wrong_seed : (end : End) → status_at end ≡ 8 → end ≡ ends.WrongSeed
at_wrong_seed ends.Whole e = absurd (omega (arith, e))
at_wrong_seed ends.NoJournal e = absurd (omega (arith, e))
at_wrong_seed ends.Differs e = absurd (omega (arith, e))
at_wrong_seed ends.ReadFault e = absurd (omega (arith, e))
at_wrong_seed ends.WriteFault e = absurd (omega (arith, e))
at_wrong_seed ends.NoMemory e = absurd (omega (arith, e))
at_wrong_seed ends.WrongSeed e = refl

-- ## What rose, by the status

pub sink_kept_by : {T : Type 0} (old new : Kind T) (end : End) (writes written : ℕ) → HasRunCause end old new writes written → status_at end ≢ 7 → written ≡ writes
sink_kept_by old new ends.Whole writes written h ne = h.1
sink_kept_by old new ends.NoJournal writes written h ne = h.1
sink_kept_by old new ends.Differs writes written h ne = h.1
sink_kept_by old new ends.ReadFault writes written h ne = h.1
sink_kept_by old new ends.WriteFault writes written h ne = absurd (ne refl)
sink_kept_by old new ends.NoMemory writes written h ne = h.1
sink_kept_by old new ends.WrongSeed writes written h ne = h.1

pub files_kept_by : {T : Type 0} (old new : Kind T) (end : End) (writes written : ℕ) → HasRunCause end old new writes written → status_at end ≢ 4 → status_at end ≢ 7 → SameCounts old new
files_kept_by old new ends.Whole writes written h four seven = h.0
files_kept_by old new ends.NoJournal writes written h four seven = h.0
files_kept_by old new ends.Differs writes written h four seven = h.0
files_kept_by old new ends.ReadFault writes written h four seven = absurd (four refl)
files_kept_by old new ends.WriteFault writes written h four seven = absurd (seven refl)
files_kept_by old new ends.NoMemory writes written h four seven = h.0
files_kept_by old new ends.WrongSeed writes written h four seven = h.0
