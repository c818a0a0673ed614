-- What is asked of a vault.
use Rattle.std.specs.Prelude.{ℕ, ◌≤◌, List, length}
use Rattle.dpe_vaults.specs.declared.call.Op.{Op}
use Rattle.dpe_vaults.specs.declared.call.Op.TheVariants.{Put, Get, Remove, Names}

-- Who asks, what is to be done, at which name, and what is put.
pub record Call : Type 0 where
  pub locality : ℕ
  pub op : Op
  pub name : List ℕ
  pub sealed : List ℕ

-- the least and the most bytes of a name: 1 to 32, but none where all names are asked for
abbrev pub least_name : Op → ℕ
least_name Put = 1
least_name Get = 1
least_name Remove = 1
least_name Names = 0

abbrev pub most_name : Op → ℕ
most_name Put = 32
most_name Get = 32
most_name Remove = 32
most_name Names = 0

-- the most bytes that are handed in: only a put hands in any
abbrev pub most_sealed : Op → ℕ
most_sealed Put = 2133
most_sealed Get = 0
most_sealed Remove = 0
most_sealed Names = 0

-- a locality of 0 to 7, and a name and bytes of the lengths that the operation asks for
pub record IsCall (c : Call) : Type 0 where
  pub near : c.locality ≤ 7
  pub named : least_name c.op ≤ length c.name
  pub short : length c.name ≤ most_name c.op
  pub fits : length c.sealed ≤ most_sealed c.op
