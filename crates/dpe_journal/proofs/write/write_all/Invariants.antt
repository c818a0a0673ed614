use Rattle.std.proofs.Common.{length}
use Rattle.dpe_journal.proofs.Gathering.{IsSending}
use Rattle.dpe_journal.proofs.write.write_all.Given as goal

abbrev pub invariant-loop-rest : goal.invariant-loop-rest
invariant-loop-rest g l =
    IsSending (g.K.Sink.bytes l.initial.sink) (g.K.Sink.bytes l.sink) (g.K.Sink.faults l.initial.sink) (g.K.Sink.faults l.sink)
    (g.K.Sink.beside l.initial.sink) (g.K.Sink.beside l.sink) l.piece l.rest l.before l.written

abbrev pub decreases-loop-rest : goal.decreases-loop-rest
decreases-loop-rest g l = length l.rest
