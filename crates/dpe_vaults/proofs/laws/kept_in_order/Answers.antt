use Rattle.dpe_vaults.proofs.Lawful.{in_order}
use Rattle.dpe_vaults.proofs.laws.kept_in_order.Goals as goal

pub returns : goal.returns
returns c = in_order
