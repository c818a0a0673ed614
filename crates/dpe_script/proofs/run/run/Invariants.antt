use Rattle.std.proofs.Common.{drop}
use Rattle.dpe_script.specs.CodeScript.{lines_are}
use Rattle.dpe_script.proofs.Running.{IsGoing}
use Rattle.dpe_script.proofs.run.run.Given as goal

abbrev pub invariant-loop-line : goal.invariant-loop-line
invariant-loop-line g l =
    IsGoing g.L.Duplex.told (lines_are l.lines) (lines_are (drop l.line-index l.lines)) l.initial.links l.links
    (g.O.Sink.bytes l.initial.out) (g.O.Sink.bytes l.out) (g.O.Sink.faults l.initial.out) (g.O.Sink.faults l.out) l.initial.values l.values
