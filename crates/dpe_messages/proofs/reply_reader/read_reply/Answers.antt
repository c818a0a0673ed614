use Rattle.std.proofs.Common.{arith}
use Rattle.std.proofs.lemmas.Bool.{false≢true}
use Rattle.dpe_messages.proofs.ReplyLaws.{told_ok, told_none}
use Rattle.dpe_messages.proofs.reply_reader.read_reply.Goals as goal

pub returns-clause-reply : goal.returns-clause-reply
returns-clause-reply c = told_ok c.by_fields.result c.args.asked.now c.args.payload.now (λ i. omega (arith, c.type_inv.payload i)) c.by_fields.ensures

pub returns-clause-none : goal.returns-clause-none
returns-clause-none c =
    told_none c.by_fields.result c.args.asked.now c.args.payload.now c.by_fields.ensures (λ reply. false≢true (c.if-is_profile_reply.ensures.1 reply))
