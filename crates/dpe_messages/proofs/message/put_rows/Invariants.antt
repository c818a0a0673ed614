use Rattle.std.proofs.Common.{take}
use Rattle.dpe_cbor.specs.Written.{Appends}
use Rattle.dpe_messages.specs.Message.{rows_encoding}
use Rattle.dpe_messages.proofs.message.put_rows.Given as goal

abbrev pub invariant-loop-row : goal.invariant-loop-row
invariant-loop-row l = Appends l.initial.writer l.writer (rows_encoding (take l.row-index l.rows))
