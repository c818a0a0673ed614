use Rattle.std.proofs.Common.{◌≡◌, ◌≤◌, take, length}
use Rattle.dpe_messages.specs.Message.{rows_of, present}
use Rattle.dpe_messages.proofs.message.count.Given as goal

abbrev pub invariant-loop-row : goal.invariant-loop-row
invariant-loop-row l = (l.count ≡ length (present (rows_of (take l.row-index l.rows)))) × (l.count ≤ l.row-index)
