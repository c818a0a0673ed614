use Rattle.dpe_model.proofs.AcceptsUsed.{accepts_is_used}
use Rattle.dpe_model.proofs.laws.accepted_is_used.Goals as goal

pub returns : goal.returns
returns c = accepts_is_used
