-- What contracts see of a vault and of its parts.
use Rattle.std.specs.Prelude.{ℕ, List, [], ◌∷◌, ◌++◌}
use Rattle.dpe_desk.specs.Entries.{entry}
use Rattle.dpe_vaults.specs.declared.entry.VaultEntry.{VaultEntry}
use Rattle.dpe_vaults.specs.Calls.{Call}
use Rattle.dpe_vaults.specs.Kept.{Called, calls_of, reply_to}

-- The most entries, and the entries: each call, who made it, and the reply to it.
pub record VaultView : Type 0 where
  pub capacity : ℕ
  pub entries : List Called

-- an entry in memory
abbrev pub entry_of : VaultEntry → Called
entry_of e = entry e.caller e.call e.reply

-- one entry more, at the end
abbrev pub with_entry : VaultView → Called → VaultView
with_entry vault e = record vault { entries = vault.entries ++ e ∷ [] }

-- the entry of what a caller asks next
abbrev pub next_entry : VaultView → ℕ → Call → Called
next_entry vault caller c = entry caller c (reply_to (calls_of vault.entries) c)
