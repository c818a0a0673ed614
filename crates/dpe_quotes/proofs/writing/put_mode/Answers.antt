use Rattle.std.proofs.Common.{arith}
use Rattle.dpe_messages.proofs.Lengths.{head_len_1}
use Rattle.dpe_quotes.proofs.Written.{OnOk-at}
use Rattle.dpe_quotes.proofs.writing.put_mode.Goals as goal

pub unwrap-requires : goal.unwrap-requires
unwrap-requires c = c.uint.ensures.fits.1 (omega (arith, head_len_1 0 c.from.result (omega (arith, c.from.ensures, c.requires.few)), c.requires.room))

pub returns-clause-len : goal.returns-clause-len
returns-clause-len c =
    let ok = c.uint.ensures.fits.1 (omega (arith, head_len_1 0 c.from.result (omega (arith, c.from.ensures, c.requires.few)), c.requires.room)) in
    omega (arith, head_len_1 0 c.from.result (omega (arith, c.from.ensures, c.requires.few)), (OnOk-at c.uint.result ok c.uint.ensures.ok).len_is)
