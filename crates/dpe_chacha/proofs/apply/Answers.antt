use Rattle.std.proofs.Common.{◌≡◌, ◌<◌, ◌+◌, ◌*◌, ◌^◌, ℕ, List, drop, ◌∙◌, ap, arith}
use Rattle.dpe_chacha.specs.ChaCha20.{combined, block}
use Rattle.dpe_chacha.proofs.Stream.{below, placed_at, next_is, none_done, more_done, all_done}
use Rattle.dpe_chacha.proofs.apply.Goals as goal

pub loop-i-init : goal.loop-i-init
loop-i-init c = (
  placed_at c.args.key.now c.args.nonce.now c.args.counter c.placed-rng.result (omega arith) (below c.args.nonce.now 0 c.fits-nonce) c.placed-rng.ensures,
  none_done c.args.key.now c.args.nonce.now c.args.counter c.args.text.now,
  c.div_ceil-i-end.ensures,
)

pub loop-i-preserved : goal.loop-i-preserved
loop-i-preserved c =
    let in_counters : c.args.counter + c.loop-i.i < 2 ^ 32 = omega arith in
    let step = next_is c.args.key.now c.args.nonce.now c.args.counter c.loop-i.i c.next_block-block.result c.loop-i.rng c.next_block-block.new.rng c.loop-i.invariant.0 c.next_block-block.ensures
    in_counters (below c.args.nonce.now 0 c.fits-nonce) (below c.args.nonce.now 1 c.fits-nonce) in
    let part_is : c.add.new.text ≡ combined (drop (64 * c.loop-i.i) c.loop-i.text) (block c.args.key.now c.args.nonce.now (c.args.counter + c.loop-i.i)) =
    c.add.ensures ∙ ap (λ (x : List ℕ). combined x c.next_block-block.result) c.split_at_mut-part.ensures.back ∙ ap (combined (drop (64 * c.loop-i.i) c.loop-i.text)) step.0 in (
      step.1,
      rw c.split_at_mut-part.ensures.front (more_done c.args.key.now c.args.nonce.now c.args.counter c.args.text.now c.loop-i.text c.add.new.text c.loop-i.i c.loop-i.invariant.1 part_is),
      c.loop-i.invariant.2,
    )

pub returns : goal.returns
returns c = all_done c.args.key.now c.args.nonce.now c.args.counter c.args.text.now c.loop-i.text c.loop-i.i c.loop-i.invariant.1 (omega arith)
