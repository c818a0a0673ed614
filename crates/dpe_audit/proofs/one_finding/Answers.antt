use Rattle.dpe_audit.proofs.OneThing.{one_finding}
use Rattle.dpe_audit.proofs.one_finding.Goals as goal

pub returns : goal.returns
returns c mode seed bytes left other f g = one_finding mode seed bytes left other f g
