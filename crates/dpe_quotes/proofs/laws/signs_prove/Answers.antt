use Rattle.dpe_quotes.proofs.Signing as lemmas
use Rattle.dpe_quotes.proofs.laws.signs_prove.Goals as goal

pub returns : goal.returns
returns c = lemmas.signs_prove
