use Rattle.std.proofs.Common.{refl}
use Rattle.dpe_messages.specs.Commands.{sign_request}
use Rattle.dpe_messages.specs.Request.{sign}
use Rattle.dpe_messages.proofs.CommandSizes.{sign_table, table_fits}
use Rattle.dpe_messages.proofs.command_writer.write_sign.Goals as goal

pub write_message-requires : goal.write_message-requires
write_message-requires c =
    let s = sign_request c.args.sign.now in
    table_fits 10 _ (sign s) refl
    (sign_table s _ _ _ c.handle_value-handle.ensures.value c.bytes_unless_empty-label.ensures c.truth_if_true-retain.ensures)
    (record { handle = c.handle_value-handle.ensures.length; label = c.requires.label; message = c.requires.message })
