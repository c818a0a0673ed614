use Rattle.dpe_messages.proofs.Entries.{After-stop, After-all}
use Rattle.dpe_messages.proofs.SlotLemmas.{Filled-none, Filled-more, Holds-none}
use Rattle.dpe_messages.proofs.slots.pairs.Goals as goal

pub returns-in-None : goal.returns-in-None
returns-in-None c = After-stop c.args.count c.loop.counter c.loop.last c.loop.reader.rest c.args.reader.now.rest c.loop.invariant.after c.loop-test.true c.in-None.ensures

pub loop-init : goal.loop-init
loop-init c = Filled-none c.args.table.now c.args.count c.args.reader.now.rest c.empty-slots.result (Holds-none c.args.table.now c.empty-slots.result c.empty-slots.ensures.values c.empty-slots.ensures.tested)

pub loop-preserved : goal.loop-preserved
loop-preserved c =
    let filled = Filled-more c.args.table.now c.args.count c.loop.counter c.loop.last c.loop.reader.rest c.args.reader.now.rest c.entry.new.reader.rest c.in-Some.key c.in-Some.value c.loop.slots c.loop.invariant c.loop-test.true c.in-Some.ensures in
    rw c.put.ensures filled

pub returns : goal.returns
returns c = (c.loop.invariant.after.front, After-all c.args.count c.loop.counter c.loop.last c.loop.reader.rest c.args.reader.now.rest c.loop.invariant.after c.loop-test.false, c.loop.invariant.holds)
