use Rattle.std.proofs.Common.{take, drop, length, arith}
use Rattle.std.proofs.lemmas.List.{length-take, length-drop}
use Rattle.dpe_vaults.proofs.ItemReads.{reading_none, reading_whole, reading_wrong, reading_failed, reading_cut, reading_more, rose_since}
use Rattle.dpe_vaults.proofs.item.read_item.Goals as goal

pub reads-init : goal.reads-init
reads-init g c = reading_none (g.S.Source.left c.args.source.now) (g.S.Source.faults c.args.source.now) c.args.room.now c.told-room

pub returns-in-Whole-clause-item : goal.returns-in-Whole-clause-item
returns-in-Whole-clause-item g c = (
  c.in-Whole.ensures.0,
  reading_whole (g.S.Source.left c.args.source.now) (g.S.Source.left c.reads.source) (g.S.Source.faults c.args.source.now) (g.S.Source.faults c.reads.source)
      c.reads.room c.reads.have c.reads.invariant
      c.judge.new.call c.in-Whole.ensures.1.0 c.in-Whole.ensures.0 c.in-Whole.ensures.1.1,
)

pub returns-in-Wrong-clause-item : goal.returns-in-Wrong-clause-item
returns-in-Wrong-clause-item g c = reading_wrong (g.S.Source.left c.args.source.now) (g.S.Source.left c.reads.source) (g.S.Source.faults c.args.source.now) (g.S.Source.faults c.reads.source)
    c.reads.room c.reads.have c.reads.invariant
    c.in-Wrong.ensures.0 c.in-Wrong.ensures.1

pub fill_behind-requires : goal.fill_behind-requires
fill_behind-requires g c = omega (arith, c.in-Short.ensures.1, length-take c.reads.have c.reads.room, c.reads.invariant.within, c.reads.invariant.long)

pub returns-in-Err-clause-item : goal.returns-in-Err-clause-item
returns-in-Err-clause-item g c = reading_failed (g.S.Source.left c.args.source.now) (g.S.Source.left c.reads.source) (g.S.Source.faults c.args.source.now) (g.S.Source.faults c.reads.source)
    c.reads.room c.reads.have c.reads.invariant
    (g.S.Source.left c.fill_behind.new.source) c.in-Short.need c.in-Err.ensures.part.0 c.in-Short.ensures.2 c.in-Err.ensures.part.1 c.in-Err.ensures.part.2

pub returns-in-Err-clause-cause : goal.returns-in-Err-clause-cause
returns-in-Err-clause-cause g c =
    rose_since (g.S.Source.faults c.args.source.now) (g.S.Source.faults c.reads.source) (g.S.Source.faults c.fill_behind.new.source) c.reads.invariant.faultless c.in-Err.ensures.cause.failed

pub reads-preserved : goal.reads-preserved
reads-preserved g c = reading_more (g.S.Source.left c.args.source.now) (g.S.Source.left c.reads.source) (g.S.Source.faults c.args.source.now) (g.S.Source.faults c.reads.source)
    c.reads.room c.reads.have c.reads.invariant
    (g.S.Source.left c.fill_behind.new.source) (g.S.Source.faults c.fill_behind.new.source) c.fill_behind.new.room c.in-Short.need c.in-Ok.count c.fill_behind.array_long
    c.in-Short.ensures c.in-Ok.ensures.front c.in-Ok.ensures.bytes c.in-Ok.ensures.bound (omega arith) c.in-Ok.ensures.cause.kept

pub returns-then-count-need-clause-item : goal.returns-then-count-need-clause-item
returns-then-count-need-clause-item g c =
    let part = take c.in-Ok.count (drop c.reads.have c.fill_behind.new.room) in
    reading_cut (g.S.Source.left c.args.source.now) (g.S.Source.left c.reads.source) (g.S.Source.faults c.args.source.now) (g.S.Source.faults c.reads.source)
    c.reads.room c.reads.have c.reads.invariant
    (g.S.Source.left c.fill_behind.new.source) c.in-Short.need part c.in-Short.ensures.2 c.in-Ok.ensures.bytes
    (omega (arith, c.if-count-need.true, length-take c.in-Ok.count (drop c.reads.have c.fill_behind.new.room)))
    (c.in-Ok.ensures.end c.if-count-need.true)
    (omega (
      arith,
      c.if-have-count-eq0.false,
      length-take c.in-Ok.count (drop c.reads.have c.fill_behind.new.room),
      length-drop c.reads.have c.fill_behind.new.room,
      c.fill_behind.array_long,
      c.in-Ok.ensures.bound,
      c.in-Short.ensures.1,
      length-take c.reads.have c.reads.room,
      c.reads.invariant.within,
      c.reads.invariant.long,
    ))
