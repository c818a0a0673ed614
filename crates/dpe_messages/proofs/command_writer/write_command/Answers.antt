use Rattle.std.proofs.Common.{refl}
use Rattle.dpe_messages.specs.Request.{get_profile, initialize}
use Rattle.dpe_messages.proofs.CommandSizes.{command_fits, initialize_table, table_fits}
use Rattle.dpe_messages.proofs.command_writer.write_command.Goals as goal

pub write_message-requires : goal.write_message-requires
write_message-requires c = command_fits get_profile tt

pub write_message-requires-in-Initialize : goal.write_message-requires-in-Initialize
write_message-requires-in-Initialize c =
    table_fits 7 _ (initialize c.in-Initialize.default) refl (initialize_table c.in-Initialize.default _ c.truth_if_true.ensures) tt
