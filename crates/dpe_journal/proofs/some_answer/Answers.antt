use Rattle.dpe_journal.proofs.Standing.{some_answer}
use Rattle.dpe_journal.proofs.some_answer.Goals as goal

pub returns : goal.returns
returns c = some_answer
