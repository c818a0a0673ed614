-- Entries as they lie in memory: the first of those that room was taken for.
use Rattle.std.specs.Prelude.{◌≤◌, length, map, take}
use Rattle.dpe_vaults.specs.Views.{VaultView, entry_of}
use Rattle.dpe_vaults.specs.declared.storage.Stored.TheInside.{Inside}

abbrev pub stored_of : Inside → VaultView
stored_of s = record { capacity = length s.entries.items; entries = map entry_of (take s.len s.entries.items) }

pub record IsStored (s : Inside) : Type 0 where
  pub within : s.len ≤ length s.entries.items
  pub most : length s.entries.items ≤ 4096
