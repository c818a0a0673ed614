use Rattle.std.proofs.Common.{◌≡◌}
use Rattle.dpe_vaults.proofs.Running.{IsRunning}
use Rattle.dpe_vaults.proofs.program.answer_all.Given as goal

abbrev pub invariant-loop-turn : goal.invariant-loop-turn
invariant-loop-turn g l =
    IsRunning l.entries (g.S.Source.left l.initial.source) (g.S.Source.left l.source) (g.K.Sink.bytes l.initial.sink) (g.K.Sink.bytes l.sink) l.vault l._turn
    × (g.S.Source.faults l.source ≡ g.S.Source.faults l.initial.source)
    × (g.K.Sink.faults l.sink ≡ g.K.Sink.faults l.initial.sink)
