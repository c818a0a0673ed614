use Rattle.std.proofs.Common.{◌≡◌, ◌*◌, ◌≤◌, length, take}
use Rattle.dpe_vaults.specs.Kept.{names_of}
use Rattle.dpe_vaults.specs.Tables.{rows_of}
use Rattle.dpe_vaults.proofs.table.Table.names.Given as goal

abbrev pub invariant-loop-row : goal.invariant-loop-row
invariant-loop-row l = (l.text ≡ names_of (rows_of (take l.row-index l.rows))) × (length l.text ≤ 33 * l.row-index)
