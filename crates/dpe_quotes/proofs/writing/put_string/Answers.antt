use Rattle.std.proofs.Common.{length, length-append, arith}
use Rattle.dpe_cbor.specs.Encoding.{head}
use Rattle.dpe_quotes.proofs.Written.{OnOk-at, head_short}
use Rattle.dpe_quotes.proofs.writing.put_string.Goals as goal

pub unwrap-requires : goal.unwrap-requires
unwrap-requires c =
    let s = c.args.content.now in
    c.bytes.ensures.fits.1 (omega (arith, length-append (head 2 (length s)) s, head_short 2 (length s) (omega (arith, c.requires.few)), c.requires.few, c.requires.room))

pub returns-clause-len : goal.returns-clause-len
returns-clause-len c =
    let s = c.args.content.now in
    let ok = c.bytes.ensures.fits.1 (omega (arith, length-append (head 2 (length s)) s, head_short 2 (length s) (omega (arith, c.requires.few)), c.requires.few, c.requires.room)) in
    omega (arith, length-append (head 2 (length s)) s, head_short 2 (length s) (omega (arith, c.requires.few)), c.requires.few, (OnOk-at c.bytes.result ok c.bytes.ensures.ok).len_is)
