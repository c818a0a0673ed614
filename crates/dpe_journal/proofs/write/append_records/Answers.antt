use Rattle.dpe_journal.proofs.Gathering.{gathering_more, gathering_failed}
use Rattle.dpe_journal.proofs.write.append_records.Goals as goal

pub returns-in-Err-clause-fault : goal.returns-in-Err-clause-fault
returns-in-Err-clause-fault g c =
    gathering_failed (g.K.Sink.bytes c.args.sink.now) (g.K.Sink.bytes c.loop-entry.sink) (g.K.Sink.faults c.args.sink.now) (g.K.Sink.faults c.loop-entry.sink)
    (g.K.Sink.beside c.args.sink.now) (g.K.Sink.beside c.loop-entry.sink) c.args.first c.args.entries.now c.loop-entry.room c.loop-entry.gathered.len c.loop-entry.gathered.written c.loop-entry.entry-index
    c.loop-entry.invariant
    (g.K.Sink.bytes c.append_record.new.sink) c.entry-item.result c.in-Err.fault.written c.loop-entry-test.true c.entry-item.is c.in-Err.ensures.fault

pub loop-entry-preserved : goal.loop-entry-preserved
loop-entry-preserved g c =
    gathering_more (g.K.Sink.bytes c.args.sink.now) (g.K.Sink.bytes c.loop-entry.sink) (g.K.Sink.faults c.args.sink.now) (g.K.Sink.faults c.loop-entry.sink)
    (g.K.Sink.beside c.args.sink.now) (g.K.Sink.beside c.loop-entry.sink) c.args.first c.args.entries.now c.loop-entry.room c.loop-entry.gathered.len c.loop-entry.gathered.written c.loop-entry.entry-index
    c.loop-entry.invariant
    (g.K.Sink.bytes c.append_record.new.sink) (g.K.Sink.faults c.append_record.new.sink) (g.K.Sink.beside c.append_record.new.sink) c.entry-item.result c.append_record.new.room c.in-Ok.more.len c.in-Ok.more.written
    c.loop-entry-test.true c.entry-item.is c.in-Ok.ensures.ok c.in-Ok.ensures.left c.in-Ok.ensures.count c.in-Ok.ensures.cause.kept c.in-Ok.ensures.beside
