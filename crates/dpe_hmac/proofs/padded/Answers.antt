use Rattle.std.proofs.Common.{◌≡◌, ◌<◌, bit_xor, length, get_or, arith, refl, length-append, length-take, length-drop}
use Rattle.std.proofs.lemmas.List.{get_or_default, length-map}
use Rattle.std.proofs.lemmas.List.Edits.{map_over_more}
use Rattle.dpe_hmac.proofs.padded.Goals as goal

pub loop-b-preserved : goal.loop-b-preserved
loop-b-preserved c =
    let items = c.loop-b.b-items in
    let i = c.loop-b.b-index in
    let lt : i < length items = omega arith in
    let same : length items ≡ length c.args.block.now = rw c.loop-b.invariant.1 (simp (length-append, length-map, length-take, length-drop) (omega arith)) in
    (refl, map_over_more (λ b. bit_xor b c.args.pad) c.args.block.now items i (get_or items i 0) (omega arith) c.loop-b.invariant.1 (get_or_default items i 0 (get_or items i 0) lt))
