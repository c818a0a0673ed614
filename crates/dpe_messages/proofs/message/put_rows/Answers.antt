use Rattle.std.proofs.Common.{None}
use Rattle.dpe_messages.proofs.Writing.{room_for_row, rows_appended}
use Rattle.dpe_messages.proofs.message.put_rows.Goals as goal

pub put_row-requires : goal.put_row-requires
put_row-requires c =
    room_for_row c.args.writer.now c.loop-row.writer c.args.rows.now c.loop-row.row-index (0, None) c.loop-row-test.true c.requires c.loop-row.invariant

pub loop-row-preserved : goal.loop-row-preserved
loop-row-preserved c =
    rows_appended c.args.writer.now c.loop-row.writer c.put_row.new.writer c.args.rows.now c.loop-row.row-index (0, None) c.loop-row-test.true c.loop-row.invariant c.put_row.ensures
