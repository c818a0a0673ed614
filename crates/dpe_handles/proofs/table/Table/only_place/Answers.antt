use Rattle.std.proofs.Common.{◌-◌, ◌/◌, length, sym, subst, arith}
use Rattle.dpe_handles.proofs.Searching.{NotAbove, halves_fit, halves_next, all_looks, not_above, above_more, only_one}
use Rattle.dpe_handles.proofs.table.Table.only_place.Goals.{then-look-serial, else-look-serial}
use Rattle.dpe_handles.proofs.table.Table.only_place.Goals as goal

pub look-requires-clause-few : goal.look-requires-clause-few
look-requires-clause-few c =
    let most = c.len-left.ensures.most in
    let same = c.len-left.ensures.length in
    halves_fit (length c.args.self.now - 1) c.args.steps.now.taken c.loop-left.steps.taken (c.loop-left.left - 1) (omega arith) c.requires.few c.loop-left.invariant.halves

pub loop-left-preserved : goal.loop-left-preserved
loop-left-preserved c =
    let i = c.loop-left.invariant in
    let more = c.loop-left-test.true in
    let in_rows = i.in_rows in
    let up = c.len-left.ensures.ascending in
    let rows = c.args.self.now in
    let fewer = c.loop-left.left - c.loop-left.left / 2 in
    let halves = halves_next (length rows - 1) c.args.steps.now.taken c.loop-left.steps.taken c.look.new.steps.taken (c.loop-left.left - 1) (fewer - 1) c.look.ensures.counted (omega arith) (omega arith) (omega arith) i.halves in
    elim c.if-look-serial.branch [
      | then-look-serial w ↦ (
          let at = w.at-is in
          let le = w.if-look-serial.true in
          record {
            some = omega arith;
            in_rows = omega arith;
            floor = subst (NotAbove rows c.args.serial) (sym at) (not_above rows c.args.serial up _ _ c.look.ensures.serial le);
            above = λ k d from lt. i.above k d (omega arith) lt;
            halves = halves;
          })
      | else-look-serial w ↦ (
          let at = w.at-is in
          let gt = w.if-look-serial.false in
          record {
            some = omega arith;
            in_rows = omega arith;
            floor = subst (NotAbove rows c.args.serial) (sym at) i.floor;
            above = above_more rows c.args.serial up _ _ c.look.ensures.serial _ (omega arith) (omega arith);
            halves = halves;
          })
    ]

pub returns-clause-only : goal.returns-clause-only
returns-clause-only c =
    let i = c.loop-left.invariant in
    let in_rows = i.in_rows in
    let some = i.some in
    let one = c.loop-left-test.false in
    only_one c.args.self.now c.args.serial c.len-left.ensures.ascending c.loop-left.at (omega arith) i.floor (λ k d from lt. i.above k d (omega arith) lt)

pub returns-clause-looks : goal.returns-clause-looks
returns-clause-looks c =
    let i = c.loop-left.invariant in
    let in_rows = i.in_rows in
    let some = i.some in
    let one = c.loop-left-test.false in
    all_looks (length c.args.self.now) (length c.args.self.now - 1) c.args.steps.now.taken c.loop-left.steps.taken (c.loop-left.left - 1) (omega arith) (omega arith) i.halves
