-- Where a reader stands, from what it keeps of it.
use Rattle.std.specs.Prelude.{ℕ, ◌+◌, ◌*◌, ◌≤◌, ◌≡◌}
use Rattle.dpe_journal.specs.Journal.{most_records}
use Rattle.dpe_journal.specs.Stages.{Stage, at_front, behind, over}
use Rattle.dpe_journal.specs.declared.records.Expected.{Expected}
use Rattle.dpe_journal.specs.declared.records.Expected.TheVariants as expected
use Rattle.dpe_journal.specs.declared.records.Place.{Place}

-- A reader: its source, the number of bytes before the next part, and where it stands.
pub record Reading (S : Type 0) : Type 0 where
  pub source : S
  pub at : ℕ
  pub stage : Stage

abbrev pub stage_of : Expected → ℕ → Stage
stage_of expected.Header records = at_front
stage_of expected.Part records = behind records
stage_of expected.Nothing records = over

-- at most so many records of at most 8,242 bytes stand behind the header, and behind them the end
pub record IsPlace (place : Place) : Type 0 where
  pub few : place.records ≤ most_records
  pub near : place.at ≤ 22 + place.records * 8242
  pub front : place.expected ≡ expected.Header → (place.at ≡ 0) × (place.records ≡ 0)
  pub open_end : place.expected ≡ expected.Part → place.at ≤ 13 + place.records * 8242
