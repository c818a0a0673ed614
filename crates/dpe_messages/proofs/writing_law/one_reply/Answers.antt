use Rattle.dpe_messages.proofs.RepliesBack as lemmas
use Rattle.dpe_messages.proofs.writing_law.one_reply.Goals as goal

pub returns : goal.returns
returns c = record { one = lemmas.one_reply; code = lemmas.reply_number }
