use Rattle.dpe_journal.proofs.Law.{same_journal}
use Rattle.dpe_journal.proofs.journal_is_one.Goals as goal

pub returns : goal.returns
returns c = same_journal
