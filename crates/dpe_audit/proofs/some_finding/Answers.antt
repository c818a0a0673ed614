use Rattle.dpe_audit.proofs.SomeThing.{some_finding}
use Rattle.dpe_audit.proofs.some_finding.Goals as goal

pub returns : goal.returns
returns c mode seed bytes = some_finding mode seed bytes
