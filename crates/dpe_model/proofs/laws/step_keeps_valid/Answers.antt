use Rattle.dpe_model.proofs.ValidStep.{stays_valid}
use Rattle.dpe_model.proofs.laws.step_keeps_valid.Goals as goal

pub returns : goal.returns
returns c = stays_valid
