use Rattle.std.proofs.Common.{refl, sym, inl, inr}
use Rattle.hex.specs.Hex.{decode_of}
use Rattle.dpe_grammar.proofs.Spelling.{out_of_range}
use Rattle.dpe_grammar.proofs.value.digits_in.Goals as goal

pub returns-then-len-least-clause-value : goal.returns-then-len-least-clause-value
returns-then-len-least-clause-value c = sym (out_of_range c.args.text.now c.args.least c.args.most (decode_of c.args.text.now) refl (inl c.if-len-least.true))

pub returns-then-most-len-clause-value : goal.returns-then-most-len-clause-value
returns-then-most-len-clause-value c = sym (out_of_range c.args.text.now c.args.least c.args.most (decode_of c.args.text.now) refl (inr c.if-most-len.true))
