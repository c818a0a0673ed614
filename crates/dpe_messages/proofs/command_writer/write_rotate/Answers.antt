use Rattle.std.proofs.Common.{refl}
use Rattle.dpe_messages.specs.Commands.{name_of}
use Rattle.dpe_messages.specs.Request.{rotate}
use Rattle.dpe_messages.proofs.CommandSizes.{rotate_table, table_fits}
use Rattle.dpe_messages.proofs.command_writer.write_rotate.Goals as goal

pub write_message-requires : goal.write_message-requires
write_message-requires c =
    table_fits 14 _ (rotate (name_of c.args.handle) c.args.default) refl
    (rotate_table (name_of c.args.handle) c.args.default _ _ c.handle_value.ensures.value c.truth_if_true.ensures) c.handle_value.ensures.length
