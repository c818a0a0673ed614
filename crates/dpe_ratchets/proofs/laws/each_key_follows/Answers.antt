use Rattle.dpe_ratchets.proofs.Stepping.{is_ratchet}
use Rattle.dpe_ratchets.proofs.laws.each_key_follows.Goals as goal

pub returns : goal.returns
returns c = is_ratchet
