-- What a call of the reader took of a source that tells its bytes, and where it stands then.
use Rattle.std.specs.Prelude.{ℕ, ◌+◌, ◌<◌, ◌≡◌, ◌≢◌, ◌⊎◌, ◌↔◌, Bool, IsTrue, List, [], ◌++◌, length, Option, Some, Result, Ok, Err, MatchResult}
use Rattle.std.specs.Io.KnownBytes.{Consumes, Keeps, IsAtEnd}
use Rattle.dpe_io.specs.Causes.{Rose}
use Rattle.dpe_model.specs.History.{Entry}
use Rattle.dpe_journal.specs.Journal.{end_bytes}
use Rattle.dpe_journal.specs.Stages.{Stage, at_front, behind, over, Part, header, entry, closing, part_bytes, MayStand, IsCutShort, BeginsNoPart}
use Rattle.dpe_journal.specs.declared.records.Next.{Next}
use Rattle.dpe_journal.specs.declared.records.Next.TheVariants as nexts
use Rattle.dpe_journal.specs.declared.records.RecordFault.{RecordFault}
use Rattle.dpe_journal.specs.declared.records.RecordFault.TheVariants.{Malformed, Truncated, ReadFault}
use Rattle.dpe_journal.specs.declared.records.Stop.{Stop}
use Rattle.dpe_journal.specs.declared.records.Stop.TheVariants as stops

-- the part that was read, a record standing in the entry
abbrev pub part_of : Next → Entry → Part
part_of (nexts.Header first) e = header first
part_of nexts.Entry e = entry e
part_of (nexts.End count) e = closing count

-- behind the header, one record further, or behind the end
abbrev pub stage_behind : Stage → Next → Stage
stage_behind stage (nexts.Header first) = behind 0
stage_behind at_front nexts.Entry = over
stage_behind (behind records) nexts.Entry = behind (records + 1)
stage_behind over nexts.Entry = over
stage_behind stage (nexts.End count) = over

-- where the reader stands after an answer
abbrev pub stage_after : Stage → Result Next RecordFault → Stage
stage_after stage (Ok next) = stage_behind stage next
stage_after stage (Err fault) = over

-- the end, and nothing behind it
abbrev pub EndsThere : Next → Option (List ℕ) → Type 0
EndsThere (nexts.Header first) new = Unit
EndsThere nexts.Entry new = Unit
EndsThere (nexts.End count) new = IsAtEnd new

-- exactly one part that may stand there was taken; behind the end the source is at its end
pub record TakesPart (old new : Option (List ℕ)) (stage : Stage) (e : Entry) (next : Next) : Type 0 where
  pub right : MayStand stage (part_of next e)
  pub taken : Consumes old new (part_bytes (part_of next e))
  pub ends : EndsThere next new

-- the bytes are the end that may stand there, and further bytes
abbrev pub GoesOn : Stage → List ℕ → Type 0
GoesOn stage bytes =
    (count : ℕ) × (further : List ℕ) × MayStand stage (closing count) × (0 < length further) × (bytes ≡ end_bytes count ++ further)

-- the bytes are the end that may stand there
abbrev pub IsRightEnd : Stage → List ℕ → Type 0
IsRightEnd stage bytes = (count : ℕ) × MayStand stage (closing count) × (bytes ≡ end_bytes count)

-- Malformed: no continuation of the bytes that were taken, nor so of all that stand there, is a part that may stand
-- there, and the place is the part's; or a byte stands behind the end, and the place is that byte's. Truncated: the
-- source is at its end, and what was taken from the part's place on is a proper front of a part that may stand there.
-- A read fault: what was taken is such a front, or the end.
abbrev pub StopsThere : Option (List ℕ) → Option (List ℕ) → Stage → ℕ → RecordFault → Type 0
StopsThere old new stage at (Malformed place) =
    (taken : List ℕ) × Consumes old new taken
    × ((BeginsNoPart stage taken × (place ≡ at)) ⊎ (GoesOn stage taken × (place ≡ at + 9)))
StopsThere old new stage at (Truncated place) =
    (taken : List ℕ) × Consumes old new taken × IsCutShort stage taken × IsAtEnd new × (place ≡ at)
StopsThere old new stage at ReadFault =
    (taken : List ℕ) × Consumes old new taken × (IsCutShort stage taken ⊎ IsRightEnd stage taken)

abbrev pub ReadsPart : Option (List ℕ) → Option (List ℕ) → Stage → ℕ → Entry → Result Next RecordFault → Type 0
ReadsPart old new stage at e result = MatchResult result (TakesPart old new stage e) (StopsThere old new stage at)

-- the count of the source rose at a read fault, and is as before at every other answer
abbrev pub FaultCause : ℕ → ℕ → RecordFault → Type 0
FaultCause before now (Malformed place) = now ≡ before
FaultCause before now (Truncated place) = now ≡ before
FaultCause before now ReadFault = Rose before now

abbrev pub HasReadCause : {T : Type 0} → ℕ → ℕ → Result T RecordFault → Type 0
HasReadCause before now result = MatchResult result (λ _. now ≡ before) (FaultCause before now)

-- the same part, with the same left behind it; or the same fault
abbrev pub SameAnswer : Option (List ℕ) → Option (List ℕ) → Entry → Entry → Result Next RecordFault → Result Next RecordFault → Type 0
SameAnswer left other e f (Ok next) (Ok answer) = (next ≡ answer) × (part_of next e ≡ part_of answer f) × (left ≡ other)
SameAnswer left other e f (Ok next) (Err fault) = ⊥
SameAnswer left other e f (Err fault) (Ok next) = ⊥
SameAnswer left other e f (Err fault) (Err answer) = fault ≡ answer

-- A list of bytes, read from one stage and place on, has an answer, and where no read fails one alone. So each answer comes
-- exactly where what it says holds.
abbrev pub SomeAnswer : Type 0
SomeAnswer =
    (stage : Stage) (at : ℕ) (bytes : List ℕ) →
    (left : Option (List ℕ)) × (e : Entry) × (result : Result Next RecordFault) ×
    ReadsPart (Some bytes) left stage at e result × (result ≢ Err ReadFault)

abbrev pub OneAnswer : Type 0
OneAnswer =
    (stage : Stage) (at : ℕ) (bytes : List ℕ) (left other : Option (List ℕ)) (e f : Entry) (result answer : Result Next RecordFault) →
    ReadsPart (Some bytes) left stage at e result → ReadsPart (Some bytes) other stage at f answer →
    result ≢ Err ReadFault → answer ≢ Err ReadFault → SameAnswer left other e f result answer

-- ## One part, before it is told where it stands

-- what was taken where no whole part was read
abbrev pub StopsShort : Option (List ℕ) → Option (List ℕ) → Stage → Stop → Type 0
StopsShort old new stage stops.Wrong = (taken : List ℕ) × Consumes old new taken × BeginsNoPart stage taken
StopsShort old new stage stops.Cut = (taken : List ℕ) × Consumes old new taken × IsCutShort stage taken × IsAtEnd new
StopsShort old new stage stops.Failed = (taken : List ℕ) × Consumes old new taken × IsCutShort stage taken

abbrev pub StopCause : ℕ → ℕ → Stop → Type 0
StopCause before now stops.Wrong = now ≡ before
StopCause before now stops.Cut = now ≡ before
StopCause before now stops.Failed = Rose before now

abbrev pub HasStopCause : {T : Type 0} → ℕ → ℕ → Result T Stop → Type 0
HasStopCause before now result = MatchResult result (λ _. now ≡ before) (StopCause before now)

-- what a stop is as a fault of the part at this place
abbrev pub fault_of : Stop → ℕ → RecordFault
fault_of stops.Wrong at = Malformed at
fault_of stops.Cut at = Truncated at
fault_of stops.Failed at = ReadFault

-- no byte is left, or some were taken
abbrev pub ReadsNothing : {E : Type 0} → Option (List ℕ) → Option (List ℕ) → Result Bool E → Type 0
ReadsNothing old new result =
    MatchResult result
    (λ more. (taken : List ℕ) × Consumes old new taken × (IsTrue more ↔ (0 < length taken)) × (taken ≡ [] → IsAtEnd new))
    (λ _. Keeps old new)

-- behind the right end at this place: the end, or a byte too many, or a read fault
abbrev pub EndsJournal : Option (List ℕ) → Option (List ℕ) → ℕ → ℕ → Result Next RecordFault → Type 0
EndsJournal old new records at (Ok next) = (next ≡ nexts.End records) × Consumes old new [] × IsAtEnd new
EndsJournal old new records at (Err (Malformed place)) =
    (further : List ℕ) × Consumes old new further × (0 < length further) × (place ≡ at + 9)
EndsJournal old new records at (Err (Truncated place)) = ⊥
EndsJournal old new records at (Err ReadFault) = Keeps old new
