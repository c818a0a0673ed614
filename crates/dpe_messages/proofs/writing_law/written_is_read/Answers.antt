use Rattle.dpe_messages.proofs.CommandsBack.{commands_back}
use Rattle.dpe_messages.proofs.writing_law.written_is_read.Goals as goal

pub returns : goal.returns
returns c = commands_back
