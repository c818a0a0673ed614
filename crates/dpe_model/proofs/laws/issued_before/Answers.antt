use Rattle.dpe_model.proofs.Handles.{was_issued}
use Rattle.dpe_model.proofs.laws.issued_before.Goals as goal

pub returns : goal.returns
returns c = was_issued
