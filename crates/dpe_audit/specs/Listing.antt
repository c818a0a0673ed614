-- What was read and printed of the records behind a header, one by one.
use Rattle.std.specs.Prelude.{ℕ, List, length, Option}
use Rattle.std.specs.Io.KnownBytes.{Consumes, Appends, IsAtEnd}
use Rattle.dpe_io.specs.Causes.{Rose}
use Rattle.dpe_text.specs.Writing.{AppendsFront}
use Rattle.dpe_model.specs.History.{Entry}
use Rattle.dpe_journal.specs.Journal.{end_bytes}
use Rattle.dpe_journal.specs.Reading.{StopsThere, FaultCause}
use Rattle.dpe_journal.specs.Stages.{Stage, behind}
use Rattle.dpe_journal.specs.declared.records.RecordFault.{RecordFault}
use Rattle.std.specs.Prelude.{◌≡◌}
use Rattle.dpe_audit.specs.Mode.{Mode, list, connection}
use Rattle.dpe_audit.specs.Printed.{lines}
use Rattle.dpe_audit.specs.Taking.{HasRead}
use Rattle.dpe_audit.specs.declared.listing.Choice.{Choice}
use Rattle.dpe_audit.specs.declared.listing.Choice.TheVariants.{All, Connection}
use Rattle.dpe_audit.specs.declared.listing.Listing.{Listing}
use Rattle.dpe_audit.specs.declared.listing.Listing.TheVariants as listings

abbrev pub mode_of : Choice → Mode
mode_of All = list
mode_of (Connection caller number) = connection caller number

-- the records so far were read, and their lines printed
pub record IsListing (mode : Mode) (old now : Option (List ℕ)) (start at : ℕ) (stage : Stage) (got_old got_now : Option (List ℕ)) (H : List Entry) : Type 0 where
  pub records : HasRead old now start at stage H
  pub printed : Appends got_old got_now (lines mode H)

-- the same, and nothing follows the end
pub record ListsAll (mode : Mode) (old new : Option (List ℕ)) (start : ℕ) (got_old got_new : Option (List ℕ)) : Type 0 where
  pub history : List Entry
  pub left : Option (List ℕ)
  pub place : ℕ
  pub listed : IsListing mode old left start place (behind (length history)) got_old got_new history
  pub closes : Consumes left new (end_bytes (length history))
  pub at_end : IsAtEnd new

-- the same, and behind the records the reading stopped
pub record ListsUntil (mode : Mode) (old new : Option (List ℕ)) (start : ℕ) (got_old got_new : Option (List ℕ)) (fault : RecordFault) : Type 0 where
  pub history : List Entry
  pub left : Option (List ℕ)
  pub place : ℕ
  pub listed : IsListing mode old left start place (behind (length history)) got_old got_new history
  pub stops : StopsThere left new (behind (length history)) place fault

-- the records were read, and of their lines a front was printed
pub record ListsFront (mode : Mode) (old new : Option (List ℕ)) (start : ℕ) (got_old got_new : Option (List ℕ)) : Type 0 where
  pub history : List Entry
  pub place : ℕ
  pub stage : Stage
  pub records : HasRead old new start place stage history
  pub printed : AppendsFront got_old got_new (lines mode history)

abbrev pub Lists : Mode → Option (List ℕ) → Option (List ℕ) → ℕ → Option (List ℕ) → Option (List ℕ) → Listing → Type 0
Lists mode old new start got_old got_new listings.Whole = ListsAll mode old new start got_old got_new
Lists mode old new start got_old got_new (listings.Faulty fault) = ListsUntil mode old new start got_old got_new fault
Lists mode old new start got_old got_new listings.WriteFault = ListsFront mode old new start got_old got_new

-- the counts that rose: of the source at a read fault, or of the sink
abbrev pub HasListCause : ℕ → ℕ → ℕ → ℕ → Listing → Type 0
HasListCause reads reads_now writes writes_now listings.Whole = (reads_now ≡ reads) × (writes_now ≡ writes)
HasListCause reads reads_now writes writes_now (listings.Faulty fault) = FaultCause reads reads_now fault × (writes_now ≡ writes)
HasListCause reads reads_now writes writes_now listings.WriteFault = Rose writes writes_now
