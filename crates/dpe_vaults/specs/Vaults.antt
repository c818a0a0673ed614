-- A vault as it lies in memory.
use Rattle.std.specs.Prelude.{ℕ, ◌<◌, ◌≡◌, List, [], length, get_or}
use Rattle.dpe_vaults.specs.Named.{Named}
use Rattle.dpe_vaults.specs.Kept.{Called, Legal, calls_of, calls_at, kept}
use Rattle.dpe_vaults.specs.Tables.{boxed, AreStored}
use Rattle.dpe_vaults.specs.Views.{VaultView}
use Rattle.dpe_vaults.specs.declared.vault.Vault.TheInside.{Inside}

-- the rows of a locality are what its calls leave
pub record Holds (es : List Called) (l : ℕ) (rows : List (Named ℕ)) : Type 0 where
  pub pairs : boxed es rows ≡ kept (calls_at l (calls_of es))
  pub stored : AreStored (length es) rows

-- so do the tables of all localities
pub record AreHeld (es : List Called) (tables : List (List (Named ℕ))) : Type 0 where
  pub eight : length tables ≡ 8
  pub each : (l : ℕ) → l < 8 → Holds es l (get_or tables l [])

pub record IsVault (v : Inside) : Type 0 where
  pub legal : Legal v.stored.entries
  pub held : AreHeld v.stored.entries v.tables.items
