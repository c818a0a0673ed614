use Rattle.dpe_vaults.proofs.Leading.{same_status}
use Rattle.dpe_vaults.proofs.laws.one_status.Goals as goal

pub returns : goal.returns
returns c = same_status
