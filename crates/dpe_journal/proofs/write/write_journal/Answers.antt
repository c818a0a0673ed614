use Rattle.std.proofs.Common.{take}
use Rattle.dpe_journal.proofs.Gathering.{journal_written, journal_front, records_front, at_ok, at_err}
use Rattle.dpe_journal.specs.declared.write.SinkFault.{SinkFault}
use Rattle.dpe_journal.proofs.write.write_journal.Goals as goal

pub returns-in-Ok-clause-ok : goal.returns-in-Ok-clause-ok
returns-in-Ok-clause-ok g c =
    at_ok c.append_end.result _ _
    (journal_written (g.K.Sink.bytes c.args.sink.now) (g.K.Sink.bytes c.append_records.new.sink) (g.K.Sink.bytes c.append_end.new.sink) c.args.first c.args.entries.now
    (take c.in-Ok.gathered.len c.append_records.new.room) c.in-Ok.gathered.written c.in-Ok.ensures.ok)
    c.append_end.ensures.ok

pub returns-in-Ok-clause-fault : goal.returns-in-Ok-clause-fault
returns-in-Ok-clause-fault g c =
    at_err c.append_end.result _ _
    (λ (e : SinkFault). journal_front (g.K.Sink.bytes c.args.sink.now) (g.K.Sink.bytes c.append_records.new.sink) (g.K.Sink.bytes c.append_end.new.sink) c.args.first c.args.entries.now
    (take c.in-Ok.gathered.len c.append_records.new.room) c.in-Ok.gathered.written c.in-Ok.ensures.ok e.written)
    c.append_end.ensures.fault

pub returns-in-Err-clause-fault : goal.returns-in-Err-clause-fault
returns-in-Err-clause-fault g c = records_front (g.K.Sink.bytes c.args.sink.now) (g.K.Sink.bytes c.append_records.new.sink) c.args.first c.args.entries.now c.in-Err.fault.written c.in-Err.ensures.fault
