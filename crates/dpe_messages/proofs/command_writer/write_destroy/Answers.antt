use Rattle.std.proofs.Common.{refl}
use Rattle.dpe_messages.specs.Commands.{name_of}
use Rattle.dpe_messages.specs.Request.{destroy}
use Rattle.dpe_messages.proofs.CommandSizes.{destroy_table, table_fits}
use Rattle.dpe_messages.proofs.command_writer.write_destroy.Goals as goal

pub write_message-requires : goal.write_message-requires
write_message-requires c =
    table_fits 15 _ (destroy (name_of c.args.handle) c.args.recursive) refl
    (destroy_table (name_of c.args.handle) c.args.recursive _ _ c.handle_value.ensures.value c.truth_if_true.ensures) c.handle_value.ensures.length
