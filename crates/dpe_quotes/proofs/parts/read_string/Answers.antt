use Rattle.std.proofs.Common.{Err, sym, ap, ◌∙◌, arith}
use Rattle.dpe_quotes.proofs.Refusing.{not_before_end, string_refused}
use Rattle.dpe_quotes.proofs.parts.read_string.Goals as goal

pub returns-then-not-is_between-clause-read : goal.returns-then-not-is_between-clause-read
returns-then-not-is_between-clause-read c =
    let here = c.fault_here-here.ensures (not_before_end c.in_ok-bytes.bytes.now c.args.reader.now.rest c.bytes.new.self.rest c.in_ok-bytes.ensures.exact) in
    ap Err here ∙ sym (string_refused c.args.least c.args.most c.in_ok-bytes.bytes.now c.args.reader.now c.bytes.new.self.rest c.in_ok-bytes.ensures.exact
    (sym c.is_between.ensures ∙ c.if-not-is_between.true))

pub returns-then-not-is_between-clause-place : goal.returns-then-not-is_between-clause-place
returns-then-not-is_between-clause-place c =
    let here = c.fault_here-here.ensures (not_before_end c.in_ok-bytes.bytes.now c.args.reader.now.rest c.bytes.new.self.rest c.in_ok-bytes.ensures.exact) in
    omega arith
