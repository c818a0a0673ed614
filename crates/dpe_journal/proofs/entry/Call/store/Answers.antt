use Rattle.std.proofs.Common.{arith}
use Rattle.dpe_journal.proofs.entry.Call.store.Goals as goal

pub returns-clause-bytes : goal.returns-clause-bytes
returns-clause-bytes c = (λ i. omega (arith, c.type_inv.random i), λ i. omega (arith, c.type_inv.payload i))
