use Rattle.dpe_journal.proofs.Booking.{given_reply}
use Rattle.dpe_journal.proofs.entry.write_reply.Goals as goal

pub returns-clause-within : goal.returns-clause-within
returns-clause-within c =
    (given_reply c.args.core.now c.args.call.now c.locality.result c.execute.result c.random.result.now c.payload.result.now
    c.execute.new.out c.locality.ensures.locality c.random.ensures.random c.payload.ensures.payload c.execute.array_long c.execute.ensures.reply).0

pub returns-clause-reply : goal.returns-clause-reply
returns-clause-reply c =
    (given_reply c.args.core.now c.args.call.now c.locality.result c.execute.result c.random.result.now c.payload.result.now
    c.execute.new.out c.locality.ensures.locality c.random.ensures.random c.payload.ensures.payload c.execute.array_long c.execute.ensures.reply).1
