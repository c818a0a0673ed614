-- How the program ends: the files that it opened and handed back, what it found in them, and what it printed.
use Rattle.std.specs.Prelude.{ℕ, ◌≡◌, ◌≢◌, ◌⊎◌, List, [], ◌∷◌, length, Option, Some}
use Rattle.dpe_io.specs.Causes.{Rose}
use Rattle.dpe_io.specs.Told.{Kind, OpensNone}
use Rattle.dpe_audit.specs.Audit.{Ends}
use Rattle.dpe_audit.specs.Finding.{Finding, whole, faulty, differing, begun, Finds}
use Rattle.dpe_audit.specs.Mode.{Mode, check, live, list, connection, Judges}
use Rattle.dpe_audit.specs.Shelves.{Lends, HasSeed, HasNoSeed, HasWrongSize}
use Rattle.dpe_audit.specs.Words.{IsRequest}
use Rattle.dpe_audit.specs.declared.audit.End.{End}
use Rattle.dpe_audit.specs.declared.audit.End.TheVariants as ends
use Rattle.dpe_journal.specs.declared.records.RecordFault.{RecordFault}
use Rattle.dpe_journal.specs.declared.records.RecordFault.TheVariants.{Malformed, Truncated, ReadFault}

-- ## The exit status

abbrev pub status_at : End → ℕ
status_at ends.Whole = 0
status_at ends.NoJournal = 11
status_at ends.Differs = 12
status_at ends.ReadFault = 4
status_at ends.WriteFault = 7
status_at ends.NoMemory = 3
status_at ends.WrongSeed = 8

abbrev pub IsStatus : ℕ → Type 0
IsStatus n = (n ≡ 0) ⊎ ((n ≡ 2) ⊎ ((n ≡ 3) ⊎ ((n ≡ 4) ⊎ ((n ≡ 7) ⊎ ((n ≡ 8) ⊎ ((n ≡ 11) ⊎ (n ≡ 12)))))))

-- ## The words

-- the words ask for something, and it has P
pub record ForRequest (words : List (List ℕ)) (P : Mode → Type 0) : Type 0 where
  pub mode : Mode
  pub asked : IsRequest words mode
  pub holds : P mode

-- the words ask for nothing
abbrev pub HasNoRequest : List (List ℕ) → Type 0
HasNoRequest words = (mode : Mode) → IsRequest words mode → ⊥

-- ## The files

-- Both counts of a shelf's files are as before; or one of them rose.
abbrev pub SameCounts : {T : Type 0} → Kind T → Kind T → Type 0
SameCounts old new = (new.failed ≡ old.failed) × (new.faults ≡ old.faults)

abbrev pub CountRose : {T : Type 0} → Kind T → Kind T → Type 0
CountRose old new = Rose old.failed new.failed ⊎ Rose old.faults new.faults

module _ {T : Type 0} (left : T → Option (List ℕ)) (faults : T → ℕ) where
  -- the journal was opened, audited with this end and handed back
  pub record Audits (mode : Mode) (seed : List ℕ) (old : Kind T) (place : ℕ) (new : Kind T) (got_old got_new : Option (List ℕ)) (end : End) : Type 0 where
    pub file : T
    pub after : T
    pub lends : Lends faults old place file after new
    pub ends : Ends end mode seed (left file) (left after) got_old got_new

  -- where replies are compared, the first file has the seed, and the journal is the second; else the journal is the first
  abbrev pub TakesSeed : Mode → List ℕ → Kind T → Kind T → ℕ → Type 0
  TakesSeed check seed old mid place = HasSeed left faults old mid seed × (place ≡ 1)
  TakesSeed live seed old mid place = HasSeed left faults old mid seed × (place ≡ 1)
  TakesSeed list seed old mid place = (seed ≡ []) × (mid ≡ old) × (place ≡ 0)
  TakesSeed (connection caller number) seed old mid place = (seed ≡ []) × (mid ≡ old) × (place ≡ 0)

  -- the seed was taken where one is needed, and the journal audited with this end
  pub record Replays (mode : Mode) (old new : Kind T) (got_old got_new : Option (List ℕ)) (end : End) : Type 0 where
    pub seed : List ℕ
    pub mid : Kind T
    pub place : ℕ
    pub takes : TakesSeed mode seed old mid place
    pub audits : Audits mode seed mid place new got_old got_new end

  -- the seed was taken where one is needed, and the journal couldn't be opened
  pub record NotOpened (mode : Mode) (old new : Kind T) : Type 0 where
    pub seed : List ℕ
    pub mid : Kind T
    pub place : ℕ
    pub takes : TakesSeed mode seed old mid place
    pub opens : OpensNone mid new

  -- the seed or the journal couldn't be opened, and nothing was printed; or the seed couldn't be read, and nothing was
  -- printed; or the journal couldn't be read, and what is printed of the records before was
  abbrev pub FailsToRead : Mode → Kind T → Kind T → Option (List ℕ) → Option (List ℕ) → Type 0
  FailsToRead mode old new got_old got_new =
      Replays mode old new got_old got_new ends.ReadFault
      ⊎ ((NotOpened mode old new × (got_new ≡ got_old)) ⊎ (Judges mode × HasNoSeed left faults old new × (got_new ≡ got_old)))

  -- the journal was audited; or nothing was printed, since a file couldn't be opened or the seed not taken
  abbrev pub RunEnds : Mode → Kind T → Kind T → Option (List ℕ) → Option (List ℕ) → End → Type 0
  RunEnds mode old new got_old got_new ends.ReadFault = FailsToRead mode old new got_old got_new
  RunEnds mode old new got_old got_new ends.WrongSeed = Judges mode × HasWrongSize left faults old new
  RunEnds mode old new got_old got_new end = Replays mode old new got_old got_new end

  -- the same for one file, before which others were opened
  abbrev pub FileEnds : Mode → List ℕ → Kind T → ℕ → Kind T → Option (List ℕ) → Option (List ℕ) → End → Type 0
  FileEnds mode seed old place new got_old got_new end =
      Audits mode seed old place new got_old got_new end
      ⊎ ((end ≡ ends.ReadFault) × OpensNone old new × (got_new ≡ got_old))

-- the shelf tells a file, which tells its bytes
pub record TellsOne {T : Type 0} (left : T → Option (List ℕ)) (files : Option (List T)) (bytes : List ℕ) : Type 0 where
  pub first : T
  pub later : List T
  pub told : files ≡ Some (first ∷ later)
  pub has : left first ≡ Some bytes

-- the same of two files, one behind the other
pub record TellsTwo {T : Type 0} (left : T → Option (List ℕ)) (files : Option (List T)) (seed bytes : List ℕ) : Type 0 where
  pub first : T
  pub second : T
  pub later : List T
  pub told : files ≡ Some (first ∷ second ∷ later)
  pub has_seed : left first ≡ Some seed
  pub has : left second ≡ Some bytes

-- the shelf tells a seed's file, where one is needed, and a journal's
abbrev pub TellsFiles : {T : Type 0} → (T → Option (List ℕ)) → Mode → List ℕ → List ℕ → Option (List T) → Type 0
TellsFiles left check seed bytes files = TellsTwo left files seed bytes
TellsFiles left live seed bytes files = TellsTwo left files seed bytes
TellsFiles left list seed bytes files = (seed ≡ []) × TellsOne left files bytes
TellsFiles left (connection caller number) seed bytes files = (seed ≡ []) × TellsOne left files bytes

-- the counts that rose, of the files and of the output
abbrev pub HasRunCause : {T : Type 0} → End → Kind T → Kind T → ℕ → ℕ → Type 0
HasRunCause ends.ReadFault old new writes written = CountRose old new × (written ≡ writes)
HasRunCause ends.WriteFault old new writes written = Rose writes written
HasRunCause end old new writes written = SameCounts old new × (written ≡ writes)

-- the fault is one of the bytes
abbrev pub IsOfBytes : RecordFault → Type 0
IsOfBytes (Malformed place) = Unit {0}
IsOfBytes (Truncated place) = Unit {0}
IsOfBytes ReadFault = ⊥

-- the audit came to a verdict
abbrev pub IsVerdict : Finding → Type 0
IsVerdict (whole first H) = Unit {0}
IsVerdict (faulty front fault) = IsOfBytes fault
IsVerdict (differing first H e) = Unit {0}
IsVerdict (begun front) = ⊥

-- A list of bytes is found to be something, and one thing alone, for one mode and seed. So a report's status and text come
-- exactly where they hold.
abbrev pub SomeFinding : Type 0
SomeFinding =
    (mode : Mode) (seed bytes : List ℕ) →
    (finding : Finding) × (left : Option (List ℕ)) × Finds mode seed (Some bytes) left finding × IsVerdict finding

abbrev pub OneFinding : Type 0
OneFinding =
    (mode : Mode) (seed bytes : List ℕ) (left other : Option (List ℕ)) (f g : Finding) →
    Finds mode seed (Some bytes) left f → Finds mode seed (Some bytes) other g → IsVerdict f → IsVerdict g → f ≡ g

-- ## What is to come of right words, and files that are told

-- The words ask for an audit. Of the files that the shelf tells, the seed's has 32 bytes, where one is needed, and this is
-- found in the journal's bytes.
pub record Expects {T : Type 0} (left : T → Option (List ℕ)) (words : List (List ℕ)) (files : Option (List T)) (finding : Finding) : Type 0 where
  pub mode : Mode
  pub asked : IsRequest words mode
  pub seed : List ℕ
  pub bytes : List ℕ
  pub told : TellsFiles left mode seed bytes files
  pub size : Judges mode → length seed ≡ 32
  pub unread : Option (List ℕ)
  pub finds : Finds mode seed (Some bytes) unread finding
  pub verdict : IsVerdict finding

-- The words ask for an audit that needs a seed, and the shelf's first file hasn't 32 bytes.
pub record ExpectsNoSeed {T : Type 0} (left : T → Option (List ℕ)) (words : List (List ℕ)) (files : Option (List T)) : Type 0 where
  pub mode : Mode
  pub asked : IsRequest words mode
  pub judges : Judges mode
  pub seed : List ℕ
  pub told : TellsOne left files seed
  pub size : length seed ≢ 32

-- no count of the files rose
abbrev pub FilesFaultless : {T : Type 0} → Kind T → Kind T → Type 0
FilesFaultless old new = CountRose old new → ⊥
