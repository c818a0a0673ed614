-- What a call took of a journal in the place of a record.
use Rattle.std.specs.Prelude.{ℕ, ◌+◌, ◌<◌, ◌≤◌, ◌≡◌, List, length, Option, flat_map}
use Rattle.std.specs.List.{AllByRecursion}
use Rattle.std.specs.Io.KnownBytes.{Consumes, IsAtEnd}
use Rattle.dpe_model.specs.History.{Entry, IsEntry}
use Rattle.dpe_journal.specs.Journal.{most_records, record_bytes, end_bytes}
use Rattle.dpe_journal.specs.Reading.{StopsThere, FaultCause}
use Rattle.dpe_journal.specs.Stages.{Stage, behind}
use Rattle.dpe_audit.specs.declared.reading.Taken.{Taken}
use Rattle.dpe_audit.specs.declared.reading.Taken.TheVariants.{Record, End, Fault}

-- one record more; or the end with the number of the records, and nothing behind it; or the reading stopped
abbrev pub TakesRecord : Option (List ℕ) → Option (List ℕ) → ℕ → ℕ → Entry → Taken → Type 0
TakesRecord old new records at e Record = (records < most_records) × IsEntry e × Consumes old new (record_bytes e)
TakesRecord old new records at e End = Consumes old new (end_bytes records) × IsAtEnd new
TakesRecord old new records at e (Fault fault) = StopsThere old new (behind records) at fault

-- the source's count rose just at a read fault
abbrev pub HasTakeCause : ℕ → ℕ → Taken → Type 0
HasTakeCause before now Record = now ≡ before
HasTakeCause before now End = now ≡ before
HasTakeCause before now (Fault fault) = FaultCause before now fault

-- these records were read behind the header, and the reader stands behind them
pub record HasRead (old now : Option (List ℕ)) (start at : ℕ) (stage : Stage) (H : List Entry) : Type 0 where
  pub each : AllByRecursion IsEntry H
  pub few : length H ≤ most_records
  pub read : Consumes old now (flat_map record_bytes H)
  pub place : at ≡ start + length (flat_map record_bytes H)
  pub stands : stage ≡ behind (length H)
