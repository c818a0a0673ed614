use Rattle.std.proofs.Common.{arith}
use Rattle.dpe_quotes.proofs.Written.{OnOk-at, head_short}
use Rattle.dpe_quotes.proofs.writing.put_path_head.Goals as goal

pub unwrap-requires : goal.unwrap-requires
unwrap-requires c = c.array.ensures.fits.1 (omega (arith, head_short 4 c.args.depth (omega (arith, c.requires.few)), c.requires.room))

pub returns-clause-len : goal.returns-clause-len
returns-clause-len c =
    let ok = c.array.ensures.fits.1 (omega (arith, head_short 4 c.args.depth (omega (arith, c.requires.few)), c.requires.room)) in
    omega (arith, head_short 4 c.args.depth (omega (arith, c.requires.few)), (OnOk-at c.array.result ok c.array.ensures.ok).len_is)
