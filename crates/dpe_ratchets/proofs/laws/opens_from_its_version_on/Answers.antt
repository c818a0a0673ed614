use Rattle.dpe_ratchets.proofs.Opening as lemmas
use Rattle.dpe_ratchets.proofs.laws.opens_from_its_version_on.Goals as goal

pub returns : goal.returns
returns c = lemmas.opens_from_its_version_on
