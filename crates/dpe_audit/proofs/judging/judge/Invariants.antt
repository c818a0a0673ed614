use Rattle.std.proofs.Common.{◌≡◌, ◌-◌}
use Rattle.dpe_audit.specs.Judging.{IsJudging}
use Rattle.dpe_audit.proofs.judging.judge.Given as goal

abbrev pub invariant-records : goal.invariant-records
invariant-records g l =
    IsJudging l.initial.core (g.S.Source.left l.initial.records.source) (g.S.Source.left l.records.source) l.initial.records.at l.records.at l.records.stage l.core l.tally
    × (g.S.Source.faults l.records.source ≡ g.S.Source.faults l.initial.records.source)

abbrev pub decreases-records : goal.decreases-records
decreases-records g l = 65537 - l.tally.entries
