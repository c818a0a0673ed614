-- How far the replies of the records behind a header are those that a machine gives.
use Rattle.std.specs.Prelude.{ℕ, ◌≤◌, ◌≡◌, ◌≢◌, List, [], ◌∷◌, ◌++◌, length, take, count_by, Option}
use Rattle.std.specs.Io.KnownBytes.{Consumes, IsAtEnd}
use Rattle.dpe_model.specs.History.{Entry, LegalFrom, after_all, reply_to}
use Rattle.dpe_model.specs.State.{Machine}
use Rattle.dpe_journal.specs.Journal.{end_bytes}
use Rattle.dpe_journal.specs.Reading.{StopsThere, FaultCause}
use Rattle.dpe_journal.specs.Stages.{Stage, behind}
use Rattle.dpe_journal.specs.declared.records.RecordFault.{RecordFault}
use Rattle.dpe_audit.specs.Printed.{is_refused}
use Rattle.dpe_audit.specs.Taking.{HasRead}
use Rattle.dpe_audit.specs.declared.judging.Judgement.{Judgement}
use Rattle.dpe_audit.specs.declared.judging.Judgement.TheVariants.{Legal, Differs, Faulty}
use Rattle.dpe_audit.specs.declared.judging.Tally.{Tally}

-- the machine after these entries
abbrev pub machine_after : Machine → List Entry → Machine
machine_after M H = record { seed = M.seed; state = after_all M.seed M.state H }

-- the reply that is given there
abbrev pub given_reply : Machine → Entry → List ℕ
given_reply M e = reply_to M.seed M.state e

-- the first bytes of a room, so many, are the reply that is given there, and the entry's is another
pub record IsOther (M : Machine) (e : Entry) (room : List ℕ) (len : ℕ) : Type 0 where
  pub within : len ≤ length room
  pub given : take len room ≡ given_reply M e
  pub other : e.reply ≢ given_reply M e

-- the entries were counted, and those among them that were refused
pub record Counts (tally : Tally) (H : List Entry) : Type 0 where
  pub entries : tally.entries ≡ length H
  pub refused : tally.refused ≡ count_by is_refused H

-- so far the replies are those that the machine gives, and it stands behind them
pub record IsJudging (M : Machine) (old now : Option (List ℕ)) (start at : ℕ) (stage : Stage) (core : Machine) (tally : Tally) : Type 0 where
  pub history : List Entry
  pub records : HasRead old now start at stage history
  pub legal : LegalFrom M.seed M.state history
  pub stands : core ≡ machine_after M history
  pub counts : Counts tally history

-- all replies were those that the machine gives, and nothing follows the end
pub record AllLegal (M : Machine) (old new : Option (List ℕ)) (start : ℕ) (core : Machine) (tally : Tally) : Type 0 where
  pub history : List Entry
  pub left : Option (List ℕ)
  pub place : ℕ
  pub records : HasRead old left start place (behind (length history)) history
  pub closes : Consumes left new (end_bytes (length history))
  pub at_end : IsAtEnd new
  pub legal : LegalFrom M.seed M.state history
  pub stands : core ≡ machine_after M history
  pub counts : Counts tally history

-- so were all replies but the last entry's, and the one that is given there stands in the room
pub record LastDiffers (M : Machine) (old new : Option (List ℕ)) (start : ℕ) (e : Entry) (room : List ℕ) (number len : ℕ) : Type 0 where
  pub history : List Entry
  pub place : ℕ
  pub stage : Stage
  pub records : HasRead old new start place stage (history ++ e ∷ [])
  pub legal : LegalFrom M.seed M.state history
  pub many : number ≡ length history
  pub last : IsOther (machine_after M history) e room len

-- so were all replies, and behind their records the reading stopped
pub record StopsBehind (M : Machine) (old new : Option (List ℕ)) (start : ℕ) (fault : RecordFault) : Type 0 where
  pub history : List Entry
  pub left : Option (List ℕ)
  pub place : ℕ
  pub records : HasRead old left start place (behind (length history)) history
  pub stops : StopsThere left new (behind (length history)) place fault
  pub legal : LegalFrom M.seed M.state history

abbrev pub Judges : Machine → Option (List ℕ) → Option (List ℕ) → ℕ → Machine → Entry → List ℕ → Judgement → Type 0
Judges M old new start core e room (Legal tally) = AllLegal M old new start core tally
Judges M old new start core e room (Differs number len) = LastDiffers M old new start e room number len
Judges M old new start core e room (Faulty fault) = StopsBehind M old new start fault

-- the source's count rose just at a read fault
abbrev pub HasJudgeCause : ℕ → ℕ → Judgement → Type 0
HasJudgeCause before now (Legal tally) = now ≡ before
HasJudgeCause before now (Differs number len) = now ≡ before
HasJudgeCause before now (Faulty fault) = FaultCause before now fault
