use Rattle.std.proofs.Common.{◌≤◌, sym, ◌∙◌, arith}
use Rattle.std.proofs.lemmas.Bool.{le-ltb}
use Rattle.dpe_box.proofs.Answering.{no_high_bit}
use Rattle.dpe_box.proofs.sealing.has_bit.Goals as goal

pub returns-else-i-lt8 : goal.returns-else-i-lt8
returns-else-i-lt8 c =
    let high : 8 ≤ c.args.i = c.if-i-lt8.false in
    le-ltb c.args.i 8 high ∙ sym (no_high_bit c.args.mask c.args.i (omega (arith, c.ranges.mask.fits)) high)
