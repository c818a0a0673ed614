use Rattle.dpe_journal.proofs.Booking.{entry_in_form}
use Rattle.dpe_journal.proofs.entry.Entry.answer.Goals as goal

pub returns-clause-entry : goal.returns-clause-entry
returns-clause-entry c =
    entry_in_form c.args.caller c.args.call.now c.random.result.now c.payload.result.now c.execute.new.reply _ c.ranges.caller.fits c.connection.ensures.fits
    c.index.ensures.fits c.locality.ensures.near c.random.ensures.long c.random.ensures.random c.store.ensures.bytes.0
    c.payload.ensures.few c.payload.ensures.payload c.store.ensures.bytes.1 c.execute.ensures.reply c.copy.ensures.few c.copy.ensures.bytes
