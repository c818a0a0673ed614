use Rattle.dpe_model.specs.State.{start}
use Rattle.dpe_model.proofs.Runs.{legal_append, legal_one}
use Rattle.dpe_model.proofs.laws.step_is_legal.Goals as goal

pub returns : goal.returns
returns c seed first H e h i r = legal_append seed (start first) H _ h (legal_one seed _ e i r)
