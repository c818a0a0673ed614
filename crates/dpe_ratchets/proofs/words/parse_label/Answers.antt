use Rattle.std.proofs.Common.{arith}
use Rattle.hex.proofs.HexLemmas.{decode_of-ok}
use Rattle.dpe_ratchets.proofs.words.parse_label.Goals as goal

pub returns-then-len-gt-MAX_LABEL-clause-none : goal.returns-then-len-gt-MAX_LABEL-clause-none
returns-then-len-gt-MAX_LABEL-clause-none c label is =
    let size = (decode_of-ok c.args.digits.now label is.decoded).2 in
    let short = is.short in
    omega arith
