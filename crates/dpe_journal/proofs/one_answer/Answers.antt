use Rattle.dpe_journal.proofs.Answering.{same_answer}
use Rattle.dpe_journal.proofs.one_answer.Goals as goal

pub returns : goal.returns
returns c = same_answer
