use Rattle.std.proofs.Common.{arith}
use Rattle.dpe_messages.proofs.NumberLemmas.{command_some, command_none}
use Rattle.dpe_messages.proofs.numbers.command_number.Goals as goal

pub returns-clause-some : goal.returns-clause-some
returns-clause-some c = command_some c.args.payload.now _ (λ i. omega (arith, c.type_inv.payload i)) c.command_number_in.ensures

pub returns-clause-none : goal.returns-clause-none
returns-clause-none c = command_none c.args.payload.now _ c.command_number_in.ensures
