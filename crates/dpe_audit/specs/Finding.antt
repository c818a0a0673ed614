-- What an audit finds in the bytes of a journal that a source gives, from their front to where it stops.
use Rattle.std.specs.Prelude.{ℕ, ◌≢◌, List, [], ◌∷◌, ◌++◌, length, Option}
use Rattle.std.specs.Io.KnownBytes.{Consumes, IsAtEnd}
use Rattle.dpe_model.specs.History.{Entry, Legal, reply_to, state_after}
use Rattle.dpe_journal.specs.Journal.{journal_bytes}
use Rattle.dpe_journal.specs.Reading.{StopsThere}
use Rattle.dpe_journal.specs.declared.records.RecordFault.{RecordFault}
use Rattle.dpe_journal.specs.declared.records.RecordFault.TheVariants.{Malformed, Truncated, ReadFault}
use Rattle.dpe_audit.specs.Front.{Front, headed, front_bytes, stage_of, IsFront, IsSound}
use Rattle.dpe_audit.specs.Mode.{Mode, Judges}

-- A whole journal, with its first serial; a front of one and a fault behind it; entries, and one more whose reply isn't the
-- one that the seed gives there; or, where the audit is cut off, a front alone.
pub data Finding : Type 0 where
  whole : ℕ → List Entry → Finding
  faulty : Front → RecordFault → Finding
  differing : ℕ → List Entry → Entry → Finding
  begun : Front → Finding

-- the bytes are a journal, and where replies are compared the history is legal
pub record FindsWhole (mode : Mode) (seed : List ℕ) (old new : Option (List ℕ)) (first : ℕ) (H : List Entry) : Type 0 where
  pub right : IsFront (headed first H)
  pub sound : IsSound mode seed (headed first H)
  pub read : Consumes old new (journal_bytes first H)
  pub at_end : IsAtEnd new

-- behind the front, whose entries are sound, the reading stopped by the fault
pub record FindsFault (mode : Mode) (seed : List ℕ) (old new : Option (List ℕ)) (front : Front) (fault : RecordFault) : Type 0 where
  pub right : IsFront front
  pub sound : IsSound mode seed front
  pub left : Option (List ℕ)
  pub read : Consumes old left (front_bytes front)
  pub stops : StopsThere left new (stage_of front) (length (front_bytes front)) fault

-- the entries are a legal history, and the next one isn't legal behind them, by its reply
pub record FindsDifference (mode : Mode) (seed : List ℕ) (old new : Option (List ℕ)) (first : ℕ) (H : List Entry) (e : Entry) : Type 0 where
  pub judges : Judges mode
  pub right : IsFront (headed first (H ++ e ∷ []))
  pub legal : Legal seed first H
  pub other : e.reply ≢ reply_to seed (state_after seed first H) e
  pub read : Consumes old new (front_bytes (headed first (H ++ e ∷ [])))

-- the front was read, and its entries are sound
pub record FindsFront (mode : Mode) (seed : List ℕ) (old new : Option (List ℕ)) (front : Front) : Type 0 where
  pub right : IsFront front
  pub sound : IsSound mode seed front
  pub read : Consumes old new (front_bytes front)

abbrev pub Finds : Mode → List ℕ → Option (List ℕ) → Option (List ℕ) → Finding → Type 0
Finds mode seed old new (whole first H) = FindsWhole mode seed old new first H
Finds mode seed old new (faulty front fault) = FindsFault mode seed old new front fault
Finds mode seed old new (differing first H e) = FindsDifference mode seed old new first H e
Finds mode seed old new (begun front) = FindsFront mode seed old new front

abbrev pub fault_status : RecordFault → ℕ
fault_status (Malformed place) = 11
fault_status (Truncated place) = 11
fault_status ReadFault = 4

-- the status that is answered
abbrev pub status_of : Finding → ℕ
status_of (whole first H) = 0
status_of (faulty front fault) = fault_status fault
status_of (differing first H e) = 12
status_of (begun front) = 7
