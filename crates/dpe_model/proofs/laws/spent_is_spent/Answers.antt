use Rattle.dpe_model.proofs.Handles.{stays_spent}
use Rattle.dpe_model.proofs.laws.spent_is_spent.Goals as goal

pub returns : goal.returns
returns c = stays_spent
