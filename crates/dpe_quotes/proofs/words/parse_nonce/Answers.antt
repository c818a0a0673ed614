use Rattle.std.proofs.Common.{arith}
use Rattle.hex.proofs.HexLemmas.{decode_of-ok}
use Rattle.dpe_quotes.proofs.words.parse_nonce.Goals as goal

pub returns-then-len-gt-MAX_NONCE-clause-none : goal.returns-then-len-gt-MAX_NONCE-clause-none
returns-then-len-gt-MAX_NONCE-clause-none c nonce is =
    let size = (decode_of-ok c.args.digits.now nonce is.decoded).2 in
    let most = is.most in
    omega arith

pub returns-then-len-lt-MIN_NONCE-clause-none : goal.returns-then-len-lt-MIN_NONCE-clause-none
returns-then-len-lt-MIN_NONCE-clause-none c nonce is =
    let size = (decode_of-ok c.args.digits.now nonce is.decoded).2 in
    let least = is.least in
    omega arith
