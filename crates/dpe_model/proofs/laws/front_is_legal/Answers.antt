use Rattle.dpe_model.specs.State.{start}
use Rattle.dpe_model.proofs.Runs.{legal_front}
use Rattle.dpe_model.proofs.laws.front_is_legal.Goals as goal

pub returns : goal.returns
returns c seed first front rest h = legal_front seed (start first) front rest h
