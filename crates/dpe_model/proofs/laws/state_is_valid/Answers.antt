use Rattle.dpe_model.specs.State.{start}
use Rattle.dpe_model.proofs.ValidStep.{valid_all, valid_start}
use Rattle.dpe_model.proofs.laws.state_is_valid.Goals as goal

pub returns : goal.returns
returns c seed first H l h = valid_all seed (start first) H h (valid_start first l)
