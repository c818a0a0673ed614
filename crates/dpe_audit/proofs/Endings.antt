-- What the audit of a journal finds, and how it ends.
use Rattle.std.proofs.Common.{◌≡◌, ℕ, ◌+◌, ◌<◌, ◌^◌, List, [], ◌∷◌, ◌++◌, length, take, Option, inl, inr, refl, sym, ap, subst, ◌∙◌, append-nil, flat_map, arith}
use Rattle.std.specs.Prelude.{count_by}
use Rattle.std.proofs.lemmas.List.{length-append}
use Rattle.std.specs.Io.KnownBytes.{Consumes, Appends, Keeps}
use Rattle.std.proofs.KnownBytes.{Consumes-nil, Consumes-trans, Appends-trans, Appends-kept}
use Rattle.dpe_io.specs.Causes.{Rose}
use Rattle.dpe_text.specs.Writing.{AppendsFront}
use Rattle.dpe_text.proofs.Fronts.{then_front}
use Rattle.dpe_model.specs.History.{Entry, Legal, reply_to, state_after}
use Rattle.dpe_model.specs.State.{Machine, start}
use Rattle.dpe_journal.specs.Journal.{header_bytes, record_bytes, end_bytes}
use Rattle.dpe_journal.specs.Reading.{StopsThere, FaultCause}
use Rattle.dpe_journal.specs.Stages.{at_front, behind}
use Rattle.dpe_journal.specs.declared.records.RecordFault.{RecordFault}
use Rattle.dpe_journal.specs.declared.records.RecordFault.TheVariants.{Malformed, Truncated, ReadFault}
use Rattle.dpe_audit.specs.Audit.{Tells, Unsent, Ends, HasEndCause, IsPrinted, end_of, Told}
use Rattle.dpe_audit.specs.Finding.{Finding, whole, faulty, differing, begun, Finds, status_of}
use Rattle.dpe_audit.specs.Front.{Front, nothing, headed, front_bytes}
use Rattle.dpe_audit.specs.Judging.{AllLegal, LastDiffers, StopsBehind}
use Rattle.dpe_audit.specs.Listing.{ListsAll, ListsUntil, ListsFront}
use Rattle.dpe_audit.specs.Listing as listed
use Rattle.dpe_audit.specs.Mode.{Mode, Judged, Judges}
use Rattle.dpe_audit.specs.Printed.{text_of, whole_text, lines, fault_text, difference_text, count_text, live_text, is_refused}
use Rattle.dpe_audit.specs.Verdicts.{mode_of, verdict_text}
use Rattle.dpe_audit.specs.declared.audit.End.{End}
use Rattle.dpe_audit.specs.declared.audit.End.TheVariants as ends
use Rattle.dpe_audit.specs.declared.judging.Tally.{Tally}
use Rattle.dpe_audit.specs.declared.listing.Choice.{Choice}
use Rattle.dpe_audit.specs.declared.listing.Choice.TheVariants.{All, Connection}
use Rattle.dpe_audit.specs.declared.verdict.View.{View}
use Rattle.dpe_audit.specs.declared.verdict.View.TheVariants.{Counts, Contexts}

-- ## What is told of what was found

-- the end tells something of this status
abbrev pub HasStatus : End → ℕ → Type 0
HasStatus ends.Whole n = n ≡ 0
HasStatus ends.NoJournal n = n ≡ 11
HasStatus ends.Differs n = n ≡ 12
HasStatus ends.ReadFault n = n ≡ 4
HasStatus ends.WriteFault n = ⊥
HasStatus ends.NoMemory n = ⊥
HasStatus ends.WrongSeed n = ⊥

-- the source's count rose just where the end is a read fault
abbrev pub HasReads : End → ℕ → ℕ → Type 0
HasReads ends.Whole reads now = now ≡ reads
HasReads ends.NoJournal reads now = now ≡ reads
HasReads ends.Differs reads now = now ≡ reads
HasReads ends.ReadFault reads now = Rose reads now
HasReads ends.WriteFault reads now = ⊥
HasReads ends.NoMemory reads now = ⊥
HasReads ends.WrongSeed reads now = ⊥

module _ (mode : Mode) (seed : List ℕ) (old new got_old got_new : Option (List ℕ)) (finding : Finding) (finds : Finds mode seed old new finding) where
  tells : (n : ℕ) → status_of finding ≡ n → Appends got_old got_new (text_of mode seed finding) → Tells mode seed old new got_old got_new n
  tells n right printed = record { finding = finding; right = right; finds = finds; printed = printed }

  pub whole_ends : (end : End) → HasStatus end (status_of finding) → Appends got_old got_new (text_of mode seed finding) → Ends end mode seed old new got_old got_new
  whole_ends ends.Whole right printed = tells 0 right printed
  whole_ends ends.NoJournal right printed = tells 11 right printed
  whole_ends ends.Differs right printed = tells 12 right printed
  whole_ends ends.ReadFault right printed = tells 4 right printed
  whole_ends ends.WriteFault right printed = absurd right
  whole_ends ends.NoMemory right printed = absurd right
  whole_ends ends.WrongSeed right printed = absurd right

  -- the text, or a front of it, was printed behind the lines before
  pub told_ends : (end result : End) (text : List ℕ) (writes now : ℕ) → text_of mode seed finding ≡ text → HasStatus end (status_of finding)
      → Told end text got_old got_new writes now result → Ends result mode seed old new got_old got_new
  told_ends end result text writes now is right (inl told) =
      subst (λ (e : End). Ends e mode seed old new got_old got_new) (sym told.0)
      (whole_ends end right (subst (λ (t : List ℕ). Appends got_old got_new t) (sym is) told.1))
  told_ends end result text writes now is right (inr unsent) =
      subst (λ (e : End). Ends e mode seed old new got_old got_new) (sym unsent.0)
      (record { finding = finding; finds = finds; printed = subst (λ (t : List ℕ). AppendsFront got_old got_new t) (sym is) unsent.1 })

end_cause : (end : End) (reads now writes written : ℕ) → HasReads end reads now → written ≡ writes → HasEndCause end reads now writes written
end_cause ends.Whole reads now writes written r w = (r, w)
end_cause ends.NoJournal reads now writes written r w = (r, w)
end_cause ends.Differs reads now writes written r w = (r, w)
end_cause ends.ReadFault reads now writes written r w = (r, w)
end_cause ends.WriteFault reads now writes written r w = absurd r
end_cause ends.NoMemory reads now writes written r w = absurd r
end_cause ends.WrongSeed reads now writes written r w = absurd r

pub told_cause : (end result : End) (text : List ℕ) (got_old got_new : Option (List ℕ)) (reads now writes written : ℕ) → HasReads end reads now
    → Told end text got_old got_new writes written result → HasEndCause result reads now writes written
told_cause end result text got_old got_new reads now writes written r (inl told) =
    subst (λ (e : End). HasEndCause e reads now writes written) (sym told.0) (end_cause end reads now writes written r told.2)
told_cause end result text got_old got_new reads now writes written r (inr unsent) =
    subst (λ (e : End). HasEndCause e reads now writes written) (sym unsent.0) unsent.2

-- a text that is told behind lines
pub told_behind : (end result : End) (s t : List ℕ) (a b d : Option (List ℕ)) (writes now written : ℕ) → now ≡ writes → Appends a b s
    → Told end t b d now written result → Told end (s ++ t) a d writes written result
told_behind end result s t a b d writes now written e given (inl told) = inl (told.0, Appends-trans a b d s t given told.1, told.2 ∙ e)
told_behind end result s t a b d writes now written e given (inr unsent) =
    inr (unsent.0, then_front a b d s t given unsent.1, subst (λ n. Rose n written) e unsent.2)

-- ## Faults

pub fault_has_status : (front : Front) (fault : RecordFault) → HasStatus (end_of fault) (status_of (faulty front fault))
fault_has_status front (Malformed place) = refl
fault_has_status front (Truncated place) = refl
fault_has_status front ReadFault = refl

pub fault_reads : (fault : RecordFault) (reads now : ℕ) → FaultCause reads now fault → HasReads (end_of fault) reads now
fault_reads (Malformed place) reads now r = r
fault_reads (Truncated place) reads now r = r
fault_reads ReadFault reads now r = r

pub find_no_header : (mode : Mode) (seed : List ℕ) (old new : Option (List ℕ)) (at : ℕ) (fault : RecordFault) → at ≡ 0 → StopsThere old new at_front at fault
    → Finds mode seed old new (faulty nothing fault)
find_no_header mode seed old new at fault front stops = record {
  right = tt;
  sound = tt;
  left = old;
  read = Consumes-nil old;
  stops = subst (λ n. StopsThere old new at_front n fault) front stops;
}

-- what stands behind a header of 13 bytes
header_place : (first at start place : ℕ) (H : List Entry) → at ≡ 0 → start ≡ at + 13 → place ≡ start + length (flat_map record_bytes H) → place ≡ length (front_bytes (headed first H))
header_place first at start place H front header is =
    let long : length (front_bytes (headed first H)) ≡ 13 + length (flat_map record_bytes H) = length-append (header_bytes first) (flat_map record_bytes H) in
    omega (arith, front, header, is, long)

-- ## A history that is judged

view_judged : (view : View) (P : Type 0) → P → Judged (mode_of view) P
view_judged Counts P p = p
view_judged Contexts P p = p

pub view_judges : (view : View) → Judges (mode_of view)
view_judges Counts = tt
view_judges Contexts = tt

pub view_fault_text : (view : View) (seed : List ℕ) (front : Front) (fault : RecordFault) → text_of (mode_of view) seed (faulty front fault) ≡ fault_text fault
view_fault_text Counts seed front fault = refl
view_fault_text Contexts seed front fault = refl

abbrev pub machine_at : List ℕ → ℕ → Machine
machine_at seed first = record { seed = seed; state = start first }

module _ (view : View) (seed : List ℕ) (old mid new : Option (List ℕ)) (first at start : ℕ) (range : first < 2 ^ 64) (header : Consumes old mid (header_bytes first)) where
  pub find_legal : (core : Machine) (tally : Tally) (a : AllLegal (machine_at seed first) mid new start core tally) → Finds (mode_of view) seed old new (whole first a.history)
  find_legal core tally a = record {
    right = (range, a.records.each, a.records.few);
    sound = view_judged view (Legal seed first a.history) a.legal;
    read = Consumes-trans old mid new (header_bytes first) (flat_map record_bytes a.history ++ end_bytes (length a.history)) header
        (Consumes-trans mid a.left new (flat_map record_bytes a.history) (end_bytes (length a.history)) a.records.read a.closes);
    at_end = a.at_end;
  }

  pub legal_text : (core : Machine) (tally : Tally) (a : AllLegal (machine_at seed first) mid new start core tally)
      → text_of (mode_of view) seed (whole first a.history) ≡ verdict_text view core tally
  legal_text core tally a = in_view view
    where
      rows : (state_after seed first a.history).rows ≡ core.state.rows
      rows = ap (λ (m : Machine). m.state.rows) (sym a.stands)

      in_view : (v : View) → whole_text (mode_of v) seed first a.history ≡ verdict_text v core tally
      in_view Counts =
          ap (λ n. count_text n (count_by is_refused a.history) (length (state_after seed first a.history).rows)) (sym a.counts.entries)
          ∙ ap (λ n. count_text tally.entries n (length (state_after seed first a.history).rows)) (sym a.counts.refused)
          ∙ ap (λ r. count_text tally.entries tally.refused (length r)) rows
      in_view Contexts = ap live_text rows

  pub find_other : (e : Entry) (room : List ℕ) (number len : ℕ) (d : LastDiffers (machine_at seed first) mid new start e room number len)
      → Finds (mode_of view) seed old new (differing first d.history e)
  find_other e room number len d = record {
    judges = view_judges view;
    right = (range, d.records.each, d.records.few);
    legal = d.legal;
    other = λ same. d.last.other same;
    read = Consumes-trans old mid new (header_bytes first) (flat_map record_bytes (d.history ++ e ∷ [])) header d.records.read;
  }

  pub other_text : (e : Entry) (room : List ℕ) (number len : ℕ) (recorded computed : List ℕ) (d : LastDiffers (machine_at seed first) mid new start e room number len)
      → recorded ≡ e.reply → computed ≡ take len room → text_of (mode_of view) seed (differing first d.history e) ≡ difference_text number recorded computed
  other_text e room number len recorded computed d r q =
      ap (λ n. difference_text n e.reply (reply_to seed (state_after seed first d.history) e)) (sym d.many)
      ∙ ap (λ (t : List ℕ). difference_text number t (reply_to seed (state_after seed first d.history) e)) (sym r)
      ∙ ap (λ (t : List ℕ). difference_text number recorded t) (sym (q ∙ d.last.given))

  pub find_stop : (fault : RecordFault) (s : StopsBehind (machine_at seed first) mid new start fault) → at ≡ 0 → start ≡ at + 13
      → Finds (mode_of view) seed old new (faulty (headed first s.history) fault)
  find_stop fault s front behind_header = record {
    right = (range, s.records.each, s.records.few);
    sound = view_judged view (Legal seed first s.history) s.legal;
    left = s.left;
    read = Consumes-trans old mid s.left (header_bytes first) (flat_map record_bytes s.history) header s.records.read;
    stops = subst (λ n. StopsThere s.left new (behind (length s.history)) n fault)
        (header_place first at start s.place s.history front behind_header s.records.place) s.stops;
  }

-- ## Records that are listed

pub choice_fault_text : (choice : Choice) (fault : RecordFault) → text_of (listed.mode_of choice) [] (faulty nothing fault) ≡ fault_text fault
choice_fault_text All fault = refl
choice_fault_text (Connection caller number) fault = refl

pub choice_lists : (choice : Choice) → Judges (listed.mode_of choice) → ⊥
choice_lists All judges = judges
choice_lists (Connection caller number) judges = judges

choice_judged : (choice : Choice) (P : Type 0) → Judged (listed.mode_of choice) P
choice_judged All P = tt
choice_judged (Connection caller number) P = tt

module _ (choice : Choice) (old mid new got_old got_new : Option (List ℕ)) (first at start : ℕ) (range : first < 2 ^ 64) (header : Consumes old mid (header_bytes first)) where
  list_text : (H : List Entry) → whole_text (listed.mode_of choice) [] first H ≡ lines (listed.mode_of choice) H
  list_text H = in_choice choice
    where
      in_choice : (c : Choice) → whole_text (listed.mode_of c) [] first H ≡ lines (listed.mode_of c) H
      in_choice All = refl
      in_choice (Connection caller number) = refl

  pub listed_whole : ListsAll (listed.mode_of choice) mid new start got_old got_new → Ends ends.Whole (listed.mode_of choice) [] old new got_old got_new
  listed_whole l = record {
    finding = whole first l.history;
    right = refl;
    finds = record {
      right = (range, l.listed.records.each, l.listed.records.few);
      sound = choice_judged choice (Legal [] first l.history);
      read = Consumes-trans old mid new (header_bytes first) (flat_map record_bytes l.history ++ end_bytes (length l.history)) header
          (Consumes-trans mid l.left new (flat_map record_bytes l.history) (end_bytes (length l.history)) l.listed.records.read l.closes);
      at_end = l.at_end;
    };
    printed = subst (λ (t : List ℕ). Appends got_old got_new t) (sym (list_text l.history)) l.listed.printed;
  }

  pub listed_front : ListsFront (listed.mode_of choice) mid new start got_old got_new → Ends ends.WriteFault (listed.mode_of choice) [] old new got_old got_new
  listed_front l = record {
    finding = begun (headed first l.history);
    finds = record {
      right = (range, l.records.each, l.records.few);
      sound = choice_judged choice (Legal [] first l.history);
      read = Consumes-trans old mid new (header_bytes first) (flat_map record_bytes l.history) header l.records.read;
    };
    printed = l.printed;
  }

  pub find_listed : (fault : RecordFault) (l : ListsUntil (listed.mode_of choice) mid new start got_old got_new fault) → at ≡ 0 → start ≡ at + 13
      → Finds (listed.mode_of choice) [] old new (faulty (headed first l.history) fault)
  find_listed fault l front behind_header = record {
    right = (range, l.listed.records.each, l.listed.records.few);
    sound = choice_judged choice (Legal [] first l.history);
    left = l.left;
    read = Consumes-trans old mid l.left (header_bytes first) (flat_map record_bytes l.history) header l.listed.records.read;
    stops = subst (λ n. StopsThere l.left new (behind (length l.history)) n fault)
        (header_place first at start l.place l.history front behind_header l.listed.records.place) l.stops;
  }

-- ## The flush

-- where the output was flushed, what was printed stays; where it wasn't, the end is a write fault
unsent : (mode : Mode) (seed : List ℕ) (old new got before after : Option (List ℕ)) (n : ℕ) → Tells mode seed old new got before n → Keeps before after → Unsent mode seed old new got after
unsent mode seed old new got before after n t kept = record {
  finding = t.finding;
  finds = t.finds;
  printed = (text_of mode seed t.finding, [], sym (append-nil (text_of mode seed t.finding)), Appends-kept got before after (text_of mode seed t.finding) t.printed kept);
}

flushed : (mode : Mode) (seed : List ℕ) (old new got before after : Option (List ℕ)) (n : ℕ) → Tells mode seed old new got before n → Keeps before after → Tells mode seed old new got after n
flushed mode seed old new got before after n t kept = record {
  finding = t.finding;
  right = t.right;
  finds = t.finds;
  printed = Appends-kept got before after (text_of mode seed t.finding) t.printed kept;
}

pub ends_flushed : (end : End) → IsPrinted end → (mode : Mode) (seed : List ℕ) (old new got before after : Option (List ℕ)) → Keeps before after
    → Ends end mode seed old new got before → Ends end mode seed old new got after
ends_flushed ends.Whole is mode seed old new got before after kept t = flushed mode seed old new got before after 0 t kept
ends_flushed ends.NoJournal is mode seed old new got before after kept t = flushed mode seed old new got before after 11 t kept
ends_flushed ends.Differs is mode seed old new got before after kept t = flushed mode seed old new got before after 12 t kept
ends_flushed ends.ReadFault is mode seed old new got before after kept t = flushed mode seed old new got before after 4 t kept
ends_flushed ends.WriteFault is mode seed old new got before after kept t = absurd is
ends_flushed ends.NoMemory is mode seed old new got before after kept t = absurd is
ends_flushed ends.WrongSeed is mode seed old new got before after kept t = absurd t

pub ends_unsent : (end : End) → IsPrinted end → (mode : Mode) (seed : List ℕ) (old new got before after : Option (List ℕ)) → Keeps before after
    → Ends end mode seed old new got before → Unsent mode seed old new got after
ends_unsent ends.Whole is mode seed old new got before after kept t = unsent mode seed old new got before after 0 t kept
ends_unsent ends.NoJournal is mode seed old new got before after kept t = unsent mode seed old new got before after 11 t kept
ends_unsent ends.Differs is mode seed old new got before after kept t = unsent mode seed old new got before after 12 t kept
ends_unsent ends.ReadFault is mode seed old new got before after kept t = unsent mode seed old new got before after 4 t kept
ends_unsent ends.WriteFault is mode seed old new got before after kept t = absurd is
ends_unsent ends.NoMemory is mode seed old new got before after kept t = absurd is
ends_unsent ends.WrongSeed is mode seed old new got before after kept t = absurd t

pub cause_flushed : (end : End) → IsPrinted end → (reads now writes before after : ℕ) → after ≡ before → HasEndCause end reads now writes before → HasEndCause end reads now writes after
cause_flushed end is reads now writes before after same h = subst (λ n. HasEndCause end reads now writes n) (sym same) h

pub cause_unsent : (end : End) → IsPrinted end → (reads now writes before after : ℕ) → Rose before after → HasEndCause end reads now writes before → Rose writes after
cause_unsent ends.Whole is reads now writes before after rose h = subst (λ n. Rose n after) h.1 rose
cause_unsent ends.NoJournal is reads now writes before after rose h = subst (λ n. Rose n after) h.1 rose
cause_unsent ends.Differs is reads now writes before after rose h = subst (λ n. Rose n after) h.1 rose
cause_unsent ends.ReadFault is reads now writes before after rose h = subst (λ n. Rose n after) h.1 rose
cause_unsent ends.WriteFault is reads now writes before after rose h = absurd is
cause_unsent ends.NoMemory is reads now writes before after rose h = absurd is
cause_unsent ends.WrongSeed is reads now writes before after rose h = absurd h
