use Rattle.dpe_messages.proofs.Writing.{row_appended}
use Rattle.dpe_messages.proofs.message.put_row.Goals as goal

pub returns-in-Some : goal.returns-in-Some
returns-in-Some c =
    row_appended c.args.writer.now c.put_uint.new.writer c.put_value.new.writer c.args.row.now c.in-Some.value c.in-Some.is c.put_uint.ensures c.put_value.ensures
