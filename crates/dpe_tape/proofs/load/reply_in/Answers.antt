use Rattle.std.proofs.Common.{subst}
use Rattle.dpe_messages.specs.Replies.{IsReplyTo, response_of}
use Rattle.dpe_messages.specs.declared.reply_reader.Asked.{Asked}
use Rattle.dpe_messages.proofs.RepliesBack.{one_reply}
use Rattle.dpe_tape.specs.Load.{asked_by}
use Rattle.dpe_tape.proofs.load.reply_in.Goals as goal

pub returns-clause-reply : goal.returns-clause-reply
returns-clause-reply c r given =
    one_reply (asked_by c.args.act) (response_of c.in-Ok.reply) r c.args.payload.now
    (subst (λ (a : Asked). IsReplyTo a (response_of c.in-Ok.reply) c.args.payload.now) c.asked.ensures c.in-Ok.ensures.reply) given
