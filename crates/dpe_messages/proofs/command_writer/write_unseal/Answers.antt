use Rattle.std.proofs.Common.{refl}
use Rattle.dpe_messages.specs.Commands.{unseal_request}
use Rattle.dpe_messages.specs.Request.{unseal}
use Rattle.dpe_messages.proofs.CommandSizes.{unseal_table, table_fits}
use Rattle.dpe_messages.proofs.command_writer.write_unseal.Goals as goal

pub write_message-requires : goal.write_message-requires
write_message-requires c =
    let u = unseal_request c.args.unseal.now in
    table_fits 12 _ (unseal u) refl
    (unseal_table u _ _ _ c.handle_value-handle.ensures.value c.bytes_unless_empty-label.ensures c.truth_if_true-retain.ensures)
    (record { handle = c.handle_value-handle.ensures.length; label = c.requires.label; sealed = c.requires.sealed })
