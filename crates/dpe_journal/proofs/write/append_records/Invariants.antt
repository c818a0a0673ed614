use Rattle.dpe_journal.proofs.Gathering.{IsGathering}
use Rattle.dpe_journal.proofs.write.append_records.Given as goal

abbrev pub invariant-loop-entry : goal.invariant-loop-entry
invariant-loop-entry g l =
    IsGathering (g.K.Sink.bytes l.initial.sink) (g.K.Sink.bytes l.sink) (g.K.Sink.faults l.initial.sink) (g.K.Sink.faults l.sink)
    (g.K.Sink.beside l.initial.sink) (g.K.Sink.beside l.sink) l.first l.entries l.room l.gathered.len l.gathered.written l.entry-index
