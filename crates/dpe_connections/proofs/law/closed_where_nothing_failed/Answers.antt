use Rattle.dpe_connections.proofs.Observing.{closed_only}
use Rattle.dpe_connections.proofs.law.closed_where_nothing_failed.Goals as goal

pub returns : goal.returns
returns c = closed_only
