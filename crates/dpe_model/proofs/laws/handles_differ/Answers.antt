use Rattle.dpe_model.proofs.Handles.{all_differ}
use Rattle.dpe_model.proofs.laws.handles_differ.Goals as goal

pub returns : goal.returns
returns c = all_differ
