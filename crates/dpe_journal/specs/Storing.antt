-- Entries as they lie in memory: the first of those that room was taken for.
use Rattle.std.specs.Prelude.{◌≤◌, length, map, take}
use Rattle.dpe_journal.specs.BookViews.{Storage}
use Rattle.dpe_journal.specs.Journal.{most_records}
use Rattle.dpe_journal.specs.Stored.{entry_of}
use Rattle.dpe_journal.specs.declared.storage.Stored.TheInside.{Inside}

abbrev pub storage_of : Inside → Storage
storage_of s = record { capacity = length s.entries.items; entries = map entry_of (take s.len s.entries.items) }

pub record IsStorage (s : Inside) : Type 0 where
  pub within : s.len ≤ length s.entries.items
  pub most : length s.entries.items ≤ most_records
