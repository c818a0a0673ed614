use Rattle.std.proofs.Common.{◌-◌}
use Rattle.dpe_journal.specs.Places.{stage_of}
use Rattle.dpe_journal.proofs.PartReads.{IsReading}
use Rattle.dpe_journal.proofs.records.read_part.Given as goal

abbrev pub invariant-reads : goal.invariant-reads
invariant-reads g l =
    IsReading (stage_of l.expected l.records) (g.S.Source.left l.initial.source) (g.S.Source.left l.source) (g.S.Source.faults l.initial.source) (g.S.Source.faults l.source)
    (g.S.Source.beside l.initial.source) (g.S.Source.beside l.source) l.room l.have

abbrev pub decreases-reads : goal.decreases-reads
decreases-reads g l = 8242 - l.have
