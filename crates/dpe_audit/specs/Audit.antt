-- How an audit of one journal ends: what it took of the source and gave to the sink, where they tell their bytes.
use Rattle.std.specs.Prelude.{ℕ, ◌≡◌, List, Option, ◌⊎◌}
use Rattle.std.specs.Io.KnownBytes.{Consumes, Appends}
use Rattle.dpe_io.specs.Causes.{Rose}
use Rattle.dpe_text.specs.Writing.{AppendsFront}
use Rattle.dpe_journal.specs.Journal.{header_bytes}
use Rattle.dpe_journal.specs.declared.records.RecordFault.{RecordFault}
use Rattle.dpe_journal.specs.declared.records.RecordFault.TheVariants.{Malformed, Truncated, ReadFault}
use Rattle.dpe_audit.specs.Finding.{Finding, Finds, status_of}
use Rattle.dpe_audit.specs.Mode.{Mode, Judges}
use Rattle.dpe_audit.specs.Printed.{text_of}
use Rattle.dpe_audit.specs.declared.audit.End.{End}
use Rattle.dpe_audit.specs.declared.audit.End.TheVariants as ends

-- something of this status was found, and all that is to be printed of it was
pub record Tells (mode : Mode) (seed : List ℕ) (old new got_old got_new : Option (List ℕ)) (status : ℕ) : Type 0 where
  pub finding : Finding
  pub right : status_of finding ≡ status
  pub finds : Finds mode seed old new finding
  pub printed : Appends got_old got_new (text_of mode seed finding)

-- something was found, and a front was printed of what is to be printed of it
pub record Unsent (mode : Mode) (seed : List ℕ) (old new got_old got_new : Option (List ℕ)) : Type 0 where
  pub finding : Finding
  pub finds : Finds mode seed old new finding
  pub printed : AppendsFront got_old got_new (text_of mode seed finding)

-- replies were to be compared, and of the journal just the header was taken
pub record WantsMemory (mode : Mode) (old new : Option (List ℕ)) : Type 0 where
  pub judges : Judges mode
  pub first : ℕ
  pub read : Consumes old new (header_bytes first)

-- a wrong seed is found before the journal is opened
abbrev pub Ends : End → Mode → List ℕ → Option (List ℕ) → Option (List ℕ) → Option (List ℕ) → Option (List ℕ) → Type 0
Ends ends.Whole mode seed old new got_old got_new = Tells mode seed old new got_old got_new 0
Ends ends.NoJournal mode seed old new got_old got_new = Tells mode seed old new got_old got_new 11
Ends ends.Differs mode seed old new got_old got_new = Tells mode seed old new got_old got_new 12
Ends ends.ReadFault mode seed old new got_old got_new = Tells mode seed old new got_old got_new 4
Ends ends.WriteFault mode seed old new got_old got_new = Unsent mode seed old new got_old got_new
Ends ends.NoMemory mode seed old new got_old got_new = WantsMemory mode old new
Ends ends.WrongSeed mode seed old new got_old got_new = ⊥

-- the counts that rose, of the source and of the sink
abbrev pub HasEndCause : End → ℕ → ℕ → ℕ → ℕ → Type 0
HasEndCause ends.ReadFault reads reads_now writes writes_now = Rose reads reads_now × (writes_now ≡ writes)
HasEndCause ends.WriteFault reads reads_now writes writes_now = Rose writes writes_now
HasEndCause ends.WrongSeed reads reads_now writes writes_now = ⊥
HasEndCause end reads reads_now writes writes_now = (reads_now ≡ reads) × (writes_now ≡ writes)

abbrev pub end_of : RecordFault → End
end_of (Malformed place) = ends.NoJournal
end_of (Truncated place) = ends.NoJournal
end_of ReadFault = ends.ReadFault

-- the text was printed and the end is this one; or the sink failed, and a front of the text was printed
abbrev pub Told : End → List ℕ → Option (List ℕ) → Option (List ℕ) → ℕ → ℕ → End → Type 0
Told end text got_old got_new writes writes_now result =
    ((result ≡ end) × Appends got_old got_new text × (writes_now ≡ writes))
    ⊎ ((result ≡ ends.WriteFault) × AppendsFront got_old got_new text × Rose writes writes_now)

-- a text was printed whole, behind which the output is flushed
abbrev pub IsPrinted : End → Type 0
IsPrinted ends.WriteFault = ⊥
IsPrinted ends.NoMemory = ⊥
IsPrinted end = Unit {0}
