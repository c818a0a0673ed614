use Rattle.std.proofs.Common.{arith}
use Rattle.dpe_messages.proofs.Lengths.{head_len_1}
use Rattle.dpe_quotes.proofs.Written.{OnOk-at}
use Rattle.dpe_quotes.proofs.writing.put_array.Goals as goal

pub unwrap-requires : goal.unwrap-requires
unwrap-requires c = c.array.ensures.fits.1 (omega (arith, head_len_1 4 c.args.count c.requires.few, c.requires.room))

pub returns-clause-len : goal.returns-clause-len
returns-clause-len c =
    let ok = c.array.ensures.fits.1 (omega (arith, head_len_1 4 c.args.count c.requires.few, c.requires.room)) in
    omega (arith, head_len_1 4 c.args.count c.requires.few, (OnOk-at c.array.result ok c.array.ensures.ok).len_is)
