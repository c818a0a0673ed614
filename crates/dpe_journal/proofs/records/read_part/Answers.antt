use Rattle.std.proofs.Common.{take, arith}
use Rattle.std.proofs.lemmas.List.{length-take}
use Rattle.dpe_journal.specs.Places.{stage_of}
use Rattle.dpe_journal.proofs.PartReads.{reading_none, reading_more, reading_whole, reading_wrong, reading_failed, reading_cut, short_fits, rose_since}
use Rattle.dpe_journal.proofs.records.read_part.Goals as goal

pub reads-init : goal.reads-init
reads-init g c =
    reading_none (stage_of c.args.expected c.args.records) (g.S.Source.left c.args.source.now) (g.S.Source.faults c.args.source.now) (g.S.Source.beside c.args.source.now) c.args.room.now c.told-room

pub returns-in-Whole-clause-part : goal.returns-in-Whole-clause-part
returns-in-Whole-clause-part g c = (
  c.reads.invariant.within,
  reading_whole (stage_of c.args.expected c.args.records) (g.S.Source.left c.args.source.now) (g.S.Source.left c.reads.source) (g.S.Source.faults c.args.source.now) (g.S.Source.faults c.reads.source)
      (g.S.Source.beside c.args.source.now) (g.S.Source.beside c.reads.source) c.reads.room c.reads.have c.reads.invariant _ c.in-Whole.ensures,
)

pub returns-in-Wrong-clause-stop : goal.returns-in-Wrong-clause-stop
returns-in-Wrong-clause-stop g c = reading_wrong (stage_of c.args.expected c.args.records) (g.S.Source.left c.args.source.now) (g.S.Source.left c.reads.source) (g.S.Source.faults c.args.source.now) (g.S.Source.faults c.reads.source)
    (g.S.Source.beside c.args.source.now) (g.S.Source.beside c.reads.source) c.reads.room c.reads.have c.reads.invariant c.in-Wrong.ensures

pub read_behind-requires-clause-within : goal.read_behind-requires-clause-within
read_behind-requires-clause-within g c =
    omega (arith, short_fits (stage_of c.args.expected c.args.records) (take c.reads.have c.reads.room) c.in-Short.need c.in-Short.ensures, length-take c.reads.have c.reads.room, c.reads.invariant.within, c.reads.invariant.long)

pub returns-in-Err-clause-stop : goal.returns-in-Err-clause-stop
returns-in-Err-clause-stop g c = reading_failed (stage_of c.args.expected c.args.records) (g.S.Source.left c.args.source.now) (g.S.Source.left c.reads.source) (g.S.Source.faults c.args.source.now) (g.S.Source.faults c.reads.source)
    (g.S.Source.beside c.args.source.now) (g.S.Source.beside c.reads.source) c.reads.room c.reads.have c.reads.invariant
    (g.S.Source.left c.read_behind.new.source) c.in-Short.need c.in-Short.ensures c.in-Err.ensures.kept

pub returns-in-Err-clause-cause : goal.returns-in-Err-clause-cause
returns-in-Err-clause-cause g c =
    rose_since (g.S.Source.faults c.args.source.now) (g.S.Source.faults c.reads.source) (g.S.Source.faults c.read_behind.new.source) c.reads.invariant.faultless c.in-Err.ensures.cause.failed

pub returns-then-count-eq0-clause-stop : goal.returns-then-count-eq0-clause-stop
returns-then-count-eq0-clause-stop g c = reading_cut (stage_of c.args.expected c.args.records) (g.S.Source.left c.args.source.now) (g.S.Source.left c.reads.source) (g.S.Source.faults c.args.source.now) (g.S.Source.faults c.reads.source)
    (g.S.Source.beside c.args.source.now) (g.S.Source.beside c.reads.source) c.reads.room c.reads.have c.reads.invariant
    (g.S.Source.left c.read_behind.new.source) c.in-Short.need c.in-Ok.count _ c.in-Short.ensures c.if-count-eq0.true c.in-Ok.ensures.bytes (c.in-Ok.ensures.end c.if-count-eq0.true)

pub reads-preserved : goal.reads-preserved
reads-preserved g c = reading_more (stage_of c.args.expected c.args.records) (g.S.Source.left c.args.source.now) (g.S.Source.left c.reads.source) (g.S.Source.faults c.args.source.now) (g.S.Source.faults c.reads.source)
    (g.S.Source.beside c.args.source.now) (g.S.Source.beside c.reads.source) c.reads.room c.reads.have c.reads.invariant
    (g.S.Source.left c.read_behind.new.source) (g.S.Source.faults c.read_behind.new.source) (g.S.Source.beside c.read_behind.new.source) c.read_behind.new.room c.in-Short.need c.in-Ok.count
    (omega (arith, short_fits (stage_of c.args.expected c.args.records) (take c.reads.have c.reads.room) c.in-Short.need c.in-Short.ensures, length-take c.reads.have c.reads.room, c.reads.invariant.within, c.reads.invariant.long))
    c.read_behind.array_long c.in-Short.ensures c.in-Ok.ensures.front c.in-Ok.ensures.bytes c.in-Ok.ensures.bound c.in-Ok.ensures.cause.kept c.in-Ok.ensures.beside
