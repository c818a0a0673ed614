use Rattle.std.proofs.Common.{refl}
use Rattle.dpe_messages.specs.Commands.{seal_request}
use Rattle.dpe_messages.specs.Request.{seal}
use Rattle.dpe_messages.proofs.CommandSizes.{seal_table, table_fits}
use Rattle.dpe_messages.proofs.command_writer.write_seal.Goals as goal

pub write_message-requires : goal.write_message-requires
write_message-requires c =
    let s = seal_request c.args.seal.now in
    table_fits 11 _ (seal s) refl
    (seal_table s _ _ _ _ _ c.handle_value-handle.ensures.value c.bytes_unless_empty-label.ensures c.truth_if_true-retain.ensures c.number_unless-localities.ensures.value c.number_unless-modes.ensures.value) (record {
      handle = c.handle_value-handle.ensures.length;
      label = c.requires.label;
      localities = c.number_unless-localities.ensures.range;
      modes = c.requires.modes;
      plain = c.requires.plain;
    })
