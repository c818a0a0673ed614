use Rattle.std.proofs.Common.{◌≡◌, take, length}
use Rattle.dpe_messages.specs.Message.{rows_encoding}
use Rattle.dpe_messages.proofs.message.rows_len.Given as goal

abbrev pub invariant-loop-row : goal.invariant-loop-row
invariant-loop-row l = l.len ≡ length (rows_encoding (take l.row-index l.rows))
