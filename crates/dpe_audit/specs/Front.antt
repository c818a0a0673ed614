-- Fronts of a journal.
use Rattle.std.specs.Prelude.{ℕ, ◌^◌, ◌<◌, ◌≤◌, List, [], ◌++◌, length, flat_map}
use Rattle.std.specs.List.{AllByRecursion}
use Rattle.dpe_model.specs.History.{Entry, IsEntry, Legal}
use Rattle.dpe_journal.specs.Journal.{most_records, header_bytes, record_bytes}
use Rattle.dpe_journal.specs.Stages.{Stage, at_front, behind}
use Rattle.dpe_audit.specs.Mode.{Mode, Judged}

-- nothing; or the header with the first serial, and the records of these entries
pub data Front : Type 0 where
  nothing : Front
  headed : ℕ → List Entry → Front

abbrev pub entries_in : Front → List Entry
entries_in nothing = []
entries_in (headed first H) = H

abbrev pub front_bytes : Front → List ℕ
front_bytes nothing = []
front_bytes (headed first H) = header_bytes first ++ flat_map record_bytes H

-- where a reader of the journal stands behind it
abbrev pub stage_of : Front → Stage
stage_of nothing = at_front
stage_of (headed first H) = behind (length H)

abbrev pub IsFront : Front → Type 0
IsFront nothing = Unit {0}
IsFront (headed first H) = (first < 2 ^ 64) × AllByRecursion IsEntry H × (length H ≤ most_records)

-- where replies are compared, the entries have those that the seed gives
abbrev pub IsSound : Mode → List ℕ → Front → Type 0
IsSound mode seed nothing = Unit {0}
IsSound mode seed (headed first H) = Judged mode (Legal seed first H)
