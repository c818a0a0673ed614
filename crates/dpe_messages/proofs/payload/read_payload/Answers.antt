use Rattle.std.proofs.Common.{arith}
use Rattle.dpe_messages.proofs.PayloadLemmas.{class_is}
use Rattle.dpe_messages.proofs.payload.read_payload.Goals as goal

pub returns-clause-is_class : goal.returns-clause-is_class
returns-clause-is_class c = class_is c.args.payload.now _ (λ i. omega (arith, c.type_inv.payload i)) c.class_of_payload.ensures
