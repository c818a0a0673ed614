use Rattle.std.proofs.Common.{◌-◌, ◌≤◌, length, take, drop}
use Rattle.dpe_vaults.specs.Tables.{rows_of, AllBefore, AllAfter}
use Rattle.dpe_vaults.proofs.table.Table.seek.Given as goal

abbrev pub invariant-halves : goal.invariant-halves
invariant-halves l =
    AllBefore (rows_of (take l.low l.rows)) l.name × AllAfter (rows_of (drop l.high l.rows)) l.name × (l.low ≤ l.high) × (l.high ≤ length l.rows)

abbrev pub decreases-halves : goal.decreases-halves
decreases-halves l = l.high - l.low
