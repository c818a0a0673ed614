use Rattle.std.proofs.Common.{ℕ, Some, refl, ap}
use Rattle.dpe_messages.specs.FlatMap.{number}
use Rattle.dpe_messages.specs.Commands.{derive_request}
use Rattle.dpe_messages.specs.Request.{derive}
use Rattle.dpe_messages.proofs.CommandSizes.{derive_table, table_fits, config_fits, hidden_fits}
use Rattle.dpe_messages.proofs.command_writer.write_derive.Goals as goal

pub write_message-requires : goal.write_message-requires
write_message-requires c =
    let d = derive_request c.args.derive.now in
    table_fits 8 _ (derive d) refl (
    derive_table d _ _ _ _ _ _ _ _ _ _ _
    c.handle_value-handle.ensures.value
    c.input_value-code.ensures.value
    c.inline-inline.ensures.value
    c.descriptor-descriptor.ensures
    c.input_value-authority.ensures.value
    (ap (λ (n : ℕ). Some (number n)) c.from.ensures)
    c.hidden_input-hidden.ensures.value
    c.truth_if_true-retain.ensures
    c.truth_unless_true-may_derive.ensures
    c.locality_number-locality.ensures
    c.truth_if_true-child_default.ensures
    ) (record {
      handle = c.handle_value-handle.ensures.length;
      code = c.input_value-code.ensures.length;
      config = config_fits c.args.derive.now.config c.requires.config_short c.inline-inline.ensures.length;
      authority = c.input_value-authority.ensures.length;
      mode = c.requires.mode_range;
      hidden = hidden_fits c.args.derive.now.hidden c.hidden_input-hidden.ensures.length;
      locality = c.requires.locality_range;
    })
