use Rattle.std.proofs.Common.{◌≡◌, take, None}
use Rattle.dpe_model.specs.Verdict.{first_code}
use Rattle.dpe_model.proofs.verdict.first_code.Given as goal

abbrev pub invariant-loop-test : goal.invariant-loop-test
invariant-loop-test l = first_code (take l.test-index l.tests) ≡ None
