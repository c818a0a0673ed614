use Rattle.std.proofs.Common.{length, refl, sym, ap, arith}
use Rattle.hex.specs.Hex.{decode_of}
use Rattle.dpe_grammar.proofs.Spelling.{too_many}
use Rattle.dpe_grammar.proofs.value.decode_digits.Goals as goal

pub returns-then-len-room-clause-len : goal.returns-then-len-room-clause-len
returns-then-len-room-clause-len c = sym (ap length (too_many c.args.digits.now (decode_of c.args.digits.now) refl (omega arith)))

pub returns-then-len-room-clause-bytes : goal.returns-then-len-room-clause-bytes
returns-then-len-room-clause-bytes c = sym (too_many c.args.digits.now (decode_of c.args.digits.now) refl (omega arith))
