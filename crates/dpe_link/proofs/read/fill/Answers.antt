use Rattle.std.proofs.Common.{length, ◌-◌}
use Rattle.dpe_link.proofs.Filling.{filling_more}
use Rattle.dpe_link.proofs.read.fill.Goals as goal

pub loop-filled-preserved : goal.loop-filled-preserved
loop-filled-preserved g c =
    filling_more (g.S.Source.left c.args.source.now) (g.S.Source.left c.loop-filled.source) (g.S.Source.left c.read.new.self)
    (g.S.Source.faults c.args.source.now) (g.S.Source.faults c.loop-filled.source) (g.S.Source.faults c.read.new.self)
    (g.S.Source.beside c.args.source.now) (g.S.Source.beside c.loop-filled.source) (g.S.Source.beside c.read.new.self)
    c.loop-filled.room c.read.new.room c.loop-filled.filled c.in_ok-count.count (length c.loop-filled.room - c.loop-filled.filled)
    c.loop-filled.invariant c.in_ok-count.ensures.bytes.0 c.in_ok-count.ensures.bound.0 c.in_ok-count.ensures.cause.kept c.in_ok-count.ensures.beside
