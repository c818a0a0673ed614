use Rattle.std.proofs.Common.{arith}
use Rattle.dpe_messages.proofs.NumberLemmas.{number_some, number_none}
use Rattle.dpe_messages.proofs.numbers.reply_code.Goals as goal

pub returns-clause-some : goal.returns-clause-some
returns-clause-some c = number_some c.args.payload.now _ (λ i. omega (arith, c.type_inv.payload i)) c.number_in.ensures

pub returns-clause-none : goal.returns-clause-none
returns-clause-none c = number_none c.args.payload.now _ c.number_in.ensures
