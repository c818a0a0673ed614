use Rattle.std.proofs.Common.{refl}
use Rattle.std.proofs.lemmas.Bool.{false≢true}
use Rattle.dpe_messages.proofs.ReplyLaws.{profile_asked, profile_answer}
use Rattle.dpe_messages.proofs.reply_reader.is_profile_reply.Goals as goal

pub returns-then-not-asks_profile : goal.returns-then-not-asks_profile
returns-then-not-asks_profile c = (
  λ e. absurd (false≢true e),
  λ reply. absurd (let asked = c.if-not-asks_profile.ensures.1 (profile_asked c.args.asked.now reply.0) in false≢true asked),
)

pub returns : goal.returns
returns c = (
  λ e. (profile_answer c.args.asked.now (c.if-not-asks_profile.ensures.0 refl), c.is_profile.ensures.0 e),
  λ reply. c.is_profile.ensures.1 reply.1,
)
