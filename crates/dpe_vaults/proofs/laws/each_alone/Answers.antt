use Rattle.dpe_vaults.proofs.Lawful.{alone}
use Rattle.dpe_vaults.proofs.laws.each_alone.Goals as goal

pub returns : goal.returns
returns c = alone
