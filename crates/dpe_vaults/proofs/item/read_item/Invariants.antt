use Rattle.std.proofs.Common.{◌-◌}
use Rattle.dpe_vaults.proofs.ItemReads.{IsReading}
use Rattle.dpe_vaults.proofs.item.read_item.Given as goal

abbrev pub invariant-reads : goal.invariant-reads
invariant-reads g l =
    IsReading (g.S.Source.left l.initial.source) (g.S.Source.left l.source) (g.S.Source.faults l.initial.source) (g.S.Source.faults l.source) l.room l.have

abbrev pub decreases-reads : goal.decreases-reads
decreases-reads g l = 2170 - l.have
