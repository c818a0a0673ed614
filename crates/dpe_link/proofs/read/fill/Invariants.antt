use Rattle.std.proofs.Common.{length, ◌-◌}
use Rattle.dpe_link.proofs.Filling.{IsFilling}
use Rattle.dpe_link.proofs.read.fill.Given as goal

abbrev pub invariant-loop-filled : goal.invariant-loop-filled
invariant-loop-filled g l =
    IsFilling (g.S.Source.left l.initial.source) (g.S.Source.left l.source) (g.S.Source.faults l.initial.source) (g.S.Source.faults l.source)
    (g.S.Source.beside l.initial.source) (g.S.Source.beside l.source) l.room l.filled

abbrev pub decreases-loop-filled : goal.decreases-loop-filled
decreases-loop-filled g l = length l.initial.room - l.filled
