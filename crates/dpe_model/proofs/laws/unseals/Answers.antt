use Rattle.dpe_model.proofs.Handles.{comes_back}
use Rattle.dpe_model.proofs.laws.unseals.Goals as goal

pub returns : goal.returns
returns c = comes_back
