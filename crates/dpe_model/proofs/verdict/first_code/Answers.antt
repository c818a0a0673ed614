use Rattle.std.proofs.Common.{false}
use Rattle.dpe_model.proofs.PlainLemmas.{first_more, first_here}
use Rattle.dpe_model.proofs.verdict.first_code.Goals as goal

pub returns-then-test : goal.returns-then-test
returns-then-test c = first_here c.args.tests.now c.loop-test.test-index (false, 0) c.loop-test-test.true c.loop-test.invariant c.if-test.true

pub loop-test-preserved : goal.loop-test-preserved
loop-test-preserved c = first_more c.args.tests.now c.loop-test.test-index (false, 0) c.loop-test-test.true c.loop-test.invariant c.if-test.false
