use Rattle.std.proofs.Common.{◌≡◌, take}
use Rattle.std.specs.Io.KnownBytes.{Appends}
use Rattle.dpe_audit.specs.Printed.{live_text}
use Rattle.dpe_audit.proofs.verdict.print_contexts.Given as goal

abbrev pub invariant-loop-at : goal.invariant-loop-at
invariant-loop-at g l =
    Appends (g.O.Sink.bytes l.initial.out) (g.O.Sink.bytes l.out) (live_text (take l.at l.core.state.rows))
    × (g.O.Sink.faults l.out ≡ g.O.Sink.faults l.initial.out)
