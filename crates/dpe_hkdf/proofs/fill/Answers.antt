use Rattle.std.proofs.Common.{◌∙◌, ◌++◌, arith}
use Rattle.dpe_hkdf.proofs.Blocks.{After-none, After-more, first_is_block, next_is_block}
use Rattle.dpe_hkdf.proofs.fill.Goals as goal
use Rattle.dpe_hkdf.proofs.fill.Goals.{then-i-eq0, else-i-eq0}

pub loop-i-init : goal.loop-i-init
loop-i-init c = (After-none c.args.prk.now (c.args.purpose.now ++ c.args.len.now ++ c.args.label.now) c.args.out.now _, c.div_ceil-blocks.ensures, c.new-keyed.ensures)

pub loop-i-preserved : goal.loop-i-preserved
loop-i-preserved c =
    let info = c.args.purpose.now ++ c.args.len.now ++ c.args.label.now in
    let keyed = c.loop-i.invariant.2 in
    elim c.if-i-eq0.branch [
      | then-i-eq0 w ↦ (
        After-more c.args.prk.now info _ c.loop-i.i c.loop-i.out c.loop-i.block c.write_block.new.out c.if-i-eq0.block c.loop-i.invariant.0 (omega arith)
            (w.block-is ∙ w.first_block-block.ensures c.args.prk.now keyed ∙ first_is_block c.args.prk.now info c.loop-i.i w.if-i-eq0.true) (omega arith) (rw c.from.ensures at c.write_block.ensures),
        c.loop-i.invariant.1,
        keyed,
      )
      | else-i-eq0 w ↦ (
        After-more c.args.prk.now info _ c.loop-i.i c.loop-i.out c.loop-i.block c.write_block.new.out c.if-i-eq0.block c.loop-i.invariant.0 (omega arith)
            (w.block-is ∙ w.next_block-block.ensures c.args.prk.now keyed ∙ next_is_block c.args.prk.now info _ c.loop-i.i c.loop-i.out c.loop-i.block c.loop-i.invariant.0 (omega arith)) (omega arith) (rw c.from.ensures at c.write_block.ensures),
        c.loop-i.invariant.1,
        keyed,
      )
    ]
