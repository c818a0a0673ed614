use Rattle.std.proofs.Common.{length, ◌-◌}
use Rattle.dpe_link.proofs.Filling.{IsWriting}
use Rattle.dpe_text.proofs.writing.print.Given as goal

abbrev pub invariant-loop-written : goal.invariant-loop-written
invariant-loop-written g l =
    IsWriting (g.O.Sink.bytes l.initial.out) (g.O.Sink.bytes l.out) (g.O.Sink.faults l.initial.out) (g.O.Sink.faults l.out)
    (g.O.Sink.beside l.initial.out) (g.O.Sink.beside l.out) l.text l.written

abbrev pub decreases-loop-written : goal.decreases-loop-written
decreases-loop-written g l = length l.text - l.written
