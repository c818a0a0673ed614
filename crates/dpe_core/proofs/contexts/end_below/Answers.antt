use Rattle.std.proofs.Common.{arith}
use Rattle.dpe_core.proofs.Places.{is_live_place, is_used_place}
use Rattle.dpe_core.proofs.Ending.{row_live, stays, goes}
use Rattle.dpe_core.proofs.contexts.end_below.Goals as goal

pub below-requires-clause-place : goal.below-requires-clause-place
below-requires-clause-place c =
    let more = c.loop-at-test.true in
    is_used_place c.loop-at.tree _ (row_live c.args.tree.now c.loop-at.tree c.args.table.now c.loop-at.table c.args.above.0 c.loop-at.at _ c.loop-at.invariant (omega arith) c.row.result.now c.row.ensures)

pub retire-requires : goal.retire-requires
retire-requires c =
    let more = c.loop-at-test.true in
    is_live_place c.loop-at.tree _ (row_live c.args.tree.now c.loop-at.tree c.args.table.now c.loop-at.table c.args.above.0 c.loop-at.at _ c.loop-at.invariant (omega arith) c.row.result.now c.row.ensures)

pub loop-at-preserved-then-below : goal.loop-at-preserved-then-below
loop-at-preserved-then-below c =
    let more = c.loop-at-test.true in
    let e = c.retire.ensures in
    goes c.args.tree.now c.loop-at.tree c.args.table.now c.loop-at.table c.args.above.0 c.loop-at.at _ c.loop-at.invariant (omega arith) c.row.result.now c.row.ensures
    c.below.result c.below.ensures c.if-below.true c.retire.new.self c.spend.new.self c.spend.ensures.rest e.gone e.others e.live

pub loop-at-preserved : goal.loop-at-preserved
loop-at-preserved c =
    let more = c.loop-at-test.true in
    stays c.args.tree.now c.loop-at.tree c.args.table.now c.loop-at.table c.args.above.0 c.loop-at.at _ c.loop-at.invariant (omega arith) c.row.result.now c.row.ensures
    c.below.result c.below.ensures c.if-below.false
