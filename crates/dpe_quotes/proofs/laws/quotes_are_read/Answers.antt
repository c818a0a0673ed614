use Rattle.dpe_quotes.proofs.QuoteLaws as lemmas
use Rattle.dpe_quotes.proofs.laws.quotes_are_read.Goals as goal

pub returns : goal.returns
returns c = lemmas.reads_spelled
