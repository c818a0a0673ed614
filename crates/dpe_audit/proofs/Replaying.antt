-- How the program ends, from how its parts do.
use Rattle.std.proofs.Common.{◌≡◌, ◌≢◌, ℕ, ◌<◌, ◌≤◌, List, [], ◌++◌, length, take, Option, Some, None, inl, inr, refl, sym, ap, subst, ◌∙◌, append-nil, arith}
use Rattle.std.proofs.lemmas.List.{length-append, length-take}
use Rattle.std.specs.Io.KnownBytes.{Consumes, IsAtEnd}
use Rattle.dpe_io.specs.Causes.{Rose}
use Rattle.dpe_io.specs.Told.{Kind, Opens, OpensNone, Returns, Placed}
use Rattle.dpe_link.specs.Reading.{TakesPart}
use Rattle.dpe_journal.specs.Places.{Reading}
use Rattle.dpe_journal.specs.Stages.{at_front}
use Rattle.dpe_audit.specs.Audit.{Ends, HasEndCause}
use Rattle.dpe_audit.specs.Mode.{Mode, check, live, list, connection, Judges}
use Rattle.dpe_audit.specs.Replay.{SameCounts, CountRose, Audits, TakesSeed, Replays, RunEnds, FileEnds, HasRunCause}
use Rattle.dpe_audit.specs.Shelves.{Lends, HasSeed, HasNoSeed, ReadsSeed, GivesSeed, HasSeedCause, TakesFew}
use Rattle.dpe_audit.specs.declared.audit.End.{End}
use Rattle.dpe_audit.specs.declared.audit.End.TheVariants as ends
use Rattle.dpe_audit.specs.declared.seed.SeedFile.{SeedFile}
use Rattle.dpe_audit.specs.declared.seed.SeedFile.TheVariants.{Holds, WrongSize, Unread}

-- ## A file that is lent

rose_some : (n : ℕ) → Rose 0 n → 0 < n
rose_some n h = omega (arith, h)

module _ {T : Type 0} (faults : T → ℕ) (old new : Kind T) (place : ℕ) (file after : T) (l : Lends faults old place file after new) where
  pub lends_out : new.out ≡ old.out
  lends_out = omega (arith, l.back.out, l.opens.out)

  pub lends_same : faults after ≡ 0 → SameCounts old new
  lends_same none = (l.back.failed ∙ l.opens.failed, l.back.faultless none ∙ l.opens.faults)

  pub lends_rose : Rose 0 (faults after) → CountRose old new
  lends_rose rose = inr (subst (λ n. Rose n new.faults) l.opens.faults (l.back.faulty (rose_some (faults after) rose)))

  same_after : faults after ≡ faults file → SameCounts old new
  same_after same = lends_same (same ∙ l.faultless)

  -- the counts that rose in the audit of the file rose on the shelf
  pub file_cause : (end : End) (writes written : ℕ) → HasEndCause end (faults file) (faults after) writes written → HasRunCause end old new writes written
  file_cause ends.Whole writes written h = (same_after h.0, h.1)
  file_cause ends.NoJournal writes written h = (same_after h.0, h.1)
  file_cause ends.Differs writes written h = (same_after h.0, h.1)
  file_cause ends.ReadFault writes written h = (lends_rose (subst (λ n. Rose n (faults after)) l.faultless h.0), h.1)
  file_cause ends.WriteFault writes written h = h
  file_cause ends.NoMemory writes written h = (same_after h.0, h.1)
  file_cause ends.WrongSeed writes written h = absurd h

pub opens_none_out : {T : Type 0} (old new : Kind T) → OpensNone old new → new.out ≡ old.out
opens_none_out old new o = ap (λ k. k.out) o.others

-- ## The audit of a file

module _ {T : Type 0} (left : T → Option (List ℕ)) (faults : T → ℕ) (mode : Mode) (seed : List ℕ) (old lent new : Kind T) (place : ℕ) (file after : T) (before now : Reading T) (got_old got_new : Option (List ℕ)) (end : End) where
  -- the reader had the file, and gave it back
  pub lends_read : Opens old file lent → faults file ≡ 0 → Returns lent (faults after) after new → Placed lent place new → Lends faults old place file after new
  lends_read opens none back placed = record { lent = lent; opens = opens; faultless = none; back = back; placed = placed }

  pub audits_file : Lends faults old place file after new → before ≡ record { source = file; at = 0; stage = at_front } → after ≡ now.source
      → Ends end mode seed (left before.source) (left now.source) got_old got_new → FileEnds left faults mode seed old place new got_old got_new end
  audits_file lends is released e = inl (record {
    file = file;
    after = after;
    lends = lends;
    ends = subst (λ (o : Option (List ℕ)). Ends end mode seed (left file) o got_old got_new) (sym (ap left released))
        (subst (λ (r : Reading T). Ends end mode seed (left r.source) (left now.source) got_old got_new) is e);
  })

  pub file_end_cause : (writes written : ℕ) → Lends faults old place file after new → before ≡ record { source = file; at = 0; stage = at_front } → after ≡ now.source
      → HasEndCause end (faults before.source) (faults now.source) writes written → HasRunCause end old new writes written
  file_end_cause writes written lends is released h =
      file_cause faults old new place file after lends end writes written
      (subst (λ n. HasEndCause end (faults file) n writes written) (sym (ap faults released))
      (subst (λ (r : Reading T). HasEndCause end (faults r.source) (faults now.source) writes written) is h))

-- ## The seed

module _ {T : Type 0} (left : T → Option (List ℕ)) (faults : T → ℕ) (old new : Kind T) (file after : T) (lends : Lends faults old 0 file after new) where
  pub seed_read : (seed : SeedFile) → GivesSeed (left file) seed → TakesFew (left file) (left after) → HasSeedCause (faults file) (faults after) seed → ReadsSeed left faults old new seed
  seed_read (Holds seed) gives few cause =
      record { file = file; after = after; lends = lends; kept = cause ∙ lends.faultless; few = few; size = gives.0; bytes = gives.1 }
  seed_read WrongSize gives few cause = record { file = file; after = after; lends = lends; kept = cause ∙ lends.faultless; few = few; size = gives }
  seed_read Unread gives few cause =
      inr (record { file = file; after = after; lends = lends; rose = subst (λ n. Rose n (faults after)) lends.faultless cause; few = few })

-- what a source at its end gave is all of its bytes
all_given : (old new : Option (List ℕ)) (front bytes : List ℕ) → Consumes old new front → IsAtEnd new → old ≡ Some bytes → bytes ≡ front
all_given None new front bytes c end is = cc
all_given (Some xs) None front bytes c end is = absurd c
all_given (Some xs) (Some ys) front bytes c end is =
    let same : xs ≡ bytes = cc in sym same ∙ c ∙ ap (λ (t : List ℕ). front ++ t) end ∙ append-nil front

-- what was given is the front of the bytes
front_given : (old new : Option (List ℕ)) (front bytes : List ℕ) → Consumes old new front → old ≡ Some bytes → length front ≤ length bytes
front_given None new front bytes c is = cc
front_given (Some xs) None front bytes c is = absurd c
front_given (Some xs) (Some ys) front bytes c is =
    let same : xs ≡ bytes = cc in omega (arith, ap length same, ap length c, length-append front ys)

-- a room of 33 bytes was filled, or its front
pub fills_few : (old new : Option (List ℕ)) (room : List ℕ) (count : ℕ) → length room ≡ 33 → count ≤ length room → Consumes old new (take count room) → TakesFew old new
fills_few old new room count long within taken = (take count room, taken, omega (arith, length-take count room, long, within))

pub part_few : (old new : Option (List ℕ)) (size : ℕ) → size ≡ 33 → TakesPart old new size → TakesFew old new
part_few old new size is p = (p.0, p.1, omega (arith, is, p.2))

pub whole_seed : (old new : Option (List ℕ)) (room : List ℕ) (count : ℕ) → length room ≡ 33 → Consumes old new (take count room) → (count < length room → IsAtEnd new) → count ≡ 32
    → (bytes : List ℕ) → old ≡ Some bytes → bytes ≡ take 32 room
whole_seed old new room count long taken end is bytes told =
    all_given old new (take count room) bytes taken (end (omega (arith, long, is))) told ∙ ap (λ n. take n room) is

pub other_size : (old new : Option (List ℕ)) (room : List ℕ) (count : ℕ) → length room ≡ 33 → count ≤ length room → Consumes old new (take count room) → (count < length room → IsAtEnd new) → count ≢ 32
    → (bytes : List ℕ) → old ≡ Some bytes → length bytes ≢ 32
other_size old new room count long within taken end other bytes told size =
    let front = front_given old new (take count room) bytes taken told in
    let have : length (take count room) ≡ count = omega (arith, length-take count room, within) in
    let all : count < length room → length bytes ≡ count = λ less. ap length (all_given old new (take count room) bytes taken (end less) told) ∙ have in
    let small : count < length room = omega (arith, front, have, size, long) in
    other (sym (all small) ∙ size)

-- ## The run

takes_one : {T : Type 0} (left : T → Option (List ℕ)) (faults : T → ℕ) (mode : Mode) (seed : List ℕ) (old mid : Kind T) → Judges mode → HasSeed left faults old mid seed → TakesSeed left faults mode seed old mid 1
takes_one left faults check seed old mid judges h = (h, refl)
takes_one left faults live seed old mid judges h = (h, refl)
takes_one left faults list seed old mid judges h = absurd judges
takes_one left faults (connection caller number) seed old mid judges h = absurd judges

takes_none : {T : Type 0} (left : T → Option (List ℕ)) (faults : T → ℕ) (mode : Mode) (old : Kind T) → (Judges mode → ⊥) → TakesSeed left faults mode [] old old 0
takes_none left faults check old lists = absurd (lists tt)
takes_none left faults live old lists = absurd (lists tt)
takes_none left faults list old lists = (refl, refl, refl)
takes_none left faults (connection caller number) old lists = (refl, refl, refl)

module _ {T : Type 0} (left : T → Option (List ℕ)) (faults : T → ℕ) (mode : Mode) (seed : List ℕ) (old mid new : Kind T) (place : ℕ) (got_old got_new : Option (List ℕ)) (takes : TakesSeed left faults mode seed old mid place) where
  replays : (end : End) → Audits left faults mode seed mid place new got_old got_new end → Replays left faults mode old new got_old got_new end
  replays end a = record { seed = seed; mid = mid; place = place; takes = takes; audits = a }

  audited : (end : End) → Audits left faults mode seed mid place new got_old got_new end → RunEnds left faults mode old new got_old got_new end
  audited ends.Whole a = replays ends.Whole a
  audited ends.NoJournal a = replays ends.NoJournal a
  audited ends.Differs a = replays ends.Differs a
  audited ends.ReadFault a = inl (replays ends.ReadFault a)
  audited ends.WriteFault a = replays ends.WriteFault a
  audited ends.NoMemory a = replays ends.NoMemory a
  audited ends.WrongSeed a = absurd a.ends

  pub run_ends : (end : End) → FileEnds left faults mode seed mid place new got_old got_new end → RunEnds left faults mode old new got_old got_new end
  run_ends end (inl a) = audited end a
  run_ends end (inr none) =
      subst (λ (e : End). RunEnds left faults mode old new got_old got_new e) (sym none.0)
      (inr (inl (record { seed = seed; mid = mid; place = place; takes = takes; opens = none.1 }, none.2)))

pub run_judges : {T : Type 0} (left : T → Option (List ℕ)) (faults : T → ℕ) (mode : Mode) (seed : List ℕ) (old mid new : Kind T) (got_old got_new : Option (List ℕ)) (end : End)
    → Judges mode → HasSeed left faults old mid seed → FileEnds left faults mode seed mid 1 new got_old got_new end → RunEnds left faults mode old new got_old got_new end
run_judges left faults mode seed old mid new got_old got_new end judges h f =
    run_ends left faults mode seed old mid new 1 got_old got_new (takes_one left faults mode seed old mid judges h) end f

pub run_lists : {T : Type 0} (left : T → Option (List ℕ)) (faults : T → ℕ) (mode : Mode) (old new : Kind T) (got_old got_new : Option (List ℕ)) (end : End)
    → (Judges mode → ⊥) → FileEnds left faults mode [] old 0 new got_old got_new end → RunEnds left faults mode old new got_old got_new end
run_lists left faults mode old new got_old got_new end lists f = run_ends left faults mode [] old old new 0 got_old got_new (takes_none left faults mode old lists) end f

-- counts that rose behind the seed rose over all
pub later_cause : {T : Type 0} (old mid new : Kind T) (end : End) (writes written : ℕ) → SameCounts old mid → HasRunCause end mid new writes written → HasRunCause end old new writes written
later_cause old mid new ends.Whole writes written s h = ((h.0.0 ∙ s.0, h.0.1 ∙ s.1), h.1)
later_cause old mid new ends.NoJournal writes written s h = ((h.0.0 ∙ s.0, h.0.1 ∙ s.1), h.1)
later_cause old mid new ends.Differs writes written s h = ((h.0.0 ∙ s.0, h.0.1 ∙ s.1), h.1)
later_cause old mid new ends.ReadFault writes written s (inl rose, w) = (inl (subst (λ n. Rose n new.failed) s.0 rose), w)
later_cause old mid new ends.ReadFault writes written s (inr rose, w) = (inr (subst (λ n. Rose n new.faults) s.1 rose), w)
later_cause old mid new ends.WriteFault writes written s h = h
later_cause old mid new ends.NoMemory writes written s h = ((h.0.0 ∙ s.0, h.0.1 ∙ s.1), h.1)
later_cause old mid new ends.WrongSeed writes written s h = ((h.0.0 ∙ s.0, h.0.1 ∙ s.1), h.1)

pub no_seed_cause : {T : Type 0} (left : T → Option (List ℕ)) (faults : T → ℕ) (old new : Kind T) → HasNoSeed left faults old new → CountRose old new
no_seed_cause left faults old new (inl none) = inl none.rose
no_seed_cause left faults old new (inr u) = lends_rose faults old new 0 u.file u.after u.lends u.rose

pub no_seed_out : {T : Type 0} (left : T → Option (List ℕ)) (faults : T → ℕ) (old new : Kind T) → HasNoSeed left faults old new → new.out ≡ old.out
no_seed_out left faults old new (inl none) = opens_none_out old new none
no_seed_out left faults old new (inr u) = lends_out faults old new 0 u.file u.after u.lends
