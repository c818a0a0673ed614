use Rattle.std.proofs.Common.{sym, ap, ◌∙◌}
use Rattle.dpe_messages.specs.Class.{accepted}
use Rattle.dpe_messages.proofs.PayloadLemmas.{no_number, left_out, outside, wrong, accepts, outside_of, right_of, slots_in_ranges, request_made}
use Rattle.dpe_messages.proofs.payload.command.Goals as goal

pub returns-then-not-is_command_number : goal.returns-then-not-is_command_number
returns-then-not-is_command_number c = λ m holds. no_number c.args.number m (sym c.if-not-is_command_number.ensures)

pub returns-then-is_unsupported : goal.returns-then-is_unsupported
returns-then-is_unsupported c = λ m holds. left_out c.args.number m (sym c.if-not-is_command_number.ensures) (sym c.if-is_unsupported.ensures)

pub returns-then-asks_outside : goal.returns-then-asks_outside
returns-then-asks_outside c = λ m holds.
    let asks = outside_of c.args.number c.args.slots.now m c.arguments_of-table.result.now _ holds c.arguments_of-table.ensures c.if-asks_outside.ensures in
    outside c.args.number m (sym c.if-not-is_command_number.ensures) (sym c.if-is_unsupported.ensures) asks

pub returns-then-not-is_right : goal.returns-then-not-is_right
returns-then-not-is_right c = λ m holds.
    let asks = outside_of c.args.number c.args.slots.now m c.arguments_of-table.result.now _ holds c.arguments_of-table.ensures c.if-asks_outside.ensures in
    let right = right_of c.args.number c.args.slots.now m c.arguments_of-table.result.now _ holds c.arguments_of-table.ensures c.if-not-is_right.ensures in
    wrong c.args.number m (sym c.if-not-is_command_number.ensures) (sym c.if-is_unsupported.ensures) asks right

pub command_from-requires : goal.command_from-requires
command_from-requires c =
    let m = c.requires.0 in
    let holds = c.requires.1 in
    let right = right_of c.args.number c.args.slots.now m c.arguments_of-table.result.now _ holds c.arguments_of-table.ensures c.if-not-is_right.ensures in
    slots_in_ranges c.args.number c.args.slots.now m holds right

pub returns : goal.returns
returns c = λ m holds.
    let asks = outside_of c.args.number c.args.slots.now m c.arguments_of-table.result.now _ holds c.arguments_of-table.ensures c.if-asks_outside.ensures in
    let right = right_of c.args.number c.args.slots.now m c.arguments_of-table.result.now _ holds c.arguments_of-table.ensures c.if-not-is_right.ensures in
    ap accepted (request_made c.args.number c.args.slots.now m _ holds c.command_from.ensures)
    ∙ accepts c.args.number m (sym c.if-not-is_command_number.ensures) (sym c.if-is_unsupported.ensures) asks right
