use Rattle.dpe_model.proofs.Folds.{inputs_folded}
use Rattle.dpe_model.proofs.laws.folded_inputs.Goals as goal

pub returns : goal.returns
returns c = inputs_folded
