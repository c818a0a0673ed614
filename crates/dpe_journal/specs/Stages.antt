-- The parts of a journal, which part may stand where, and what bytes there can still become.
use Rattle.std.specs.Prelude.{ℕ, ◌^◌, ◌<◌, ◌≡◌, List, ◌++◌, length}
use Rattle.dpe_model.specs.History.{Entry, IsEntry}
use Rattle.dpe_journal.specs.Journal.{most_records, header_bytes, record_bytes, end_bytes}

pub data Part : Type 0 where
  header : ℕ → Part
  entry : Entry → Part
  closing : ℕ → Part

abbrev pub part_bytes : Part → List ℕ
part_bytes (header first) = header_bytes first
part_bytes (entry e) = record_bytes e
part_bytes (closing count) = end_bytes count

-- Where a reader stands: before the header, behind the header and so many records, or behind the end or a fault.
pub data Stage : Type 0 where
  at_front : Stage
  behind : ℕ → Stage
  over : Stage

-- The part may stand there: the header at the front; then a record, where there are fewer than the most, or the end with
-- the number of the records.
abbrev pub MayStand : Stage → Part → Type 0
MayStand at_front (header first) = first < 2 ^ 64
MayStand at_front (entry e) = ⊥
MayStand at_front (closing count) = ⊥
MayStand (behind records) (header first) = ⊥
MayStand (behind records) (entry e) = (records < most_records) × IsEntry e
MayStand (behind records) (closing count) = count ≡ records
MayStand over (header first) = ⊥
MayStand over (entry e) = ⊥
MayStand over (closing count) = ⊥

abbrev pub IsHeader : List ℕ → Type 0
IsHeader bytes = (first : ℕ) × (first < 2 ^ 64) × (bytes ≡ header_bytes first)

abbrev pub IsRecord : List ℕ → Type 0
IsRecord bytes = (e : Entry) × IsEntry e × (bytes ≡ record_bytes e)

-- the bytes are a part that may stand there
abbrev pub IsPart : Stage → List ℕ → Type 0
IsPart stage bytes = (part : Part) × MayStand stage part × (bytes ≡ part_bytes part)

-- the bytes, possibly none, are a proper front of a part that may stand there
abbrev pub IsCutShort : Stage → List ℕ → Type 0
IsCutShort stage bytes = (more : List ℕ) × (0 < length more) × IsPart stage (bytes ++ more)

-- no continuation of the bytes is a part that may stand there, followed by anything
abbrev pub BeginsNoPart : Stage → List ℕ → Type 0
BeginsNoPart stage bytes = (part more after : List ℕ) → IsPart stage part → bytes ++ more ≡ part ++ after → ⊥
