use Rattle.dpe_box.proofs.Answering as lemmas
use Rattle.dpe_box.proofs.sealing.unseals_as_sealed.Goals as goal

pub returns : goal.returns
returns c = lemmas.unseals_as_sealed
