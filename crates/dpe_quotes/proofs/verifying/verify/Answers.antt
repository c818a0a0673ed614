use Rattle.std.proofs.Common.{arith}
use Rattle.dpe_quotes.proofs.VerdictLaws as laws
use Rattle.dpe_quotes.proofs.verifying.verify.Goals as goal

pub returns-clause-accepted : goal.returns-clause-accepted
returns-clause-accepted c = laws.accepts c.args.seed.now c.args.nonce.now c.args.quote.now c.check.result (λ i. omega (arith, c.type_inv.quote i)) c.check.ensures

pub returns-clause-malformed : goal.returns-clause-malformed
returns-clause-malformed c = laws.malformed c.args.seed.now c.args.nonce.now c.args.quote.now c.check.result (λ i. omega (arith, c.type_inv.quote i)) c.check.ensures

pub returns-clause-other_nonce : goal.returns-clause-other_nonce
returns-clause-other_nonce c = laws.other_nonce c.args.seed.now c.args.nonce.now c.args.quote.now c.check.result (λ i. omega (arith, c.type_inv.quote i)) c.check.ensures

pub returns-clause-other_tag : goal.returns-clause-other_tag
returns-clause-other_tag c = laws.other_tag c.args.seed.now c.args.nonce.now c.args.quote.now c.check.result (λ i. omega (arith, c.type_inv.quote i)) c.check.ensures
