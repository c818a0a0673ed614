use Rattle.dpe_messages.specs.Replies.{profile}
use Rattle.dpe_messages.proofs.ReplySizes.{reply_fits}
use Rattle.dpe_messages.proofs.reply.write_profile.Goals as goal

pub write_message-requires : goal.write_message-requires
write_message-requires c = reply_fits profile tt
