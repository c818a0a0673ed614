use Rattle.std.proofs.Common.{Err, sym, ap, ◌∙◌, arith}
use Rattle.dpe_quotes.proofs.Refusing.{not_at_end, array_refused}
use Rattle.dpe_quotes.proofs.parts.read_array.Goals as goal

pub returns-then-not-is_between-clause-read : goal.returns-then-not-is_between-clause-read
returns-then-not-is_between-clause-read c =
    let here = c.fault_here-here.ensures (not_at_end 4 c.in_ok-count.count c.args.reader.now.rest c.array.new.self.rest c.in_ok-count.ensures.exact) in
    ap Err here ∙ sym (array_refused c.args.least c.args.most c.in_ok-count.count c.args.reader.now c.array.new.self.rest c.in_ok-count.ensures.exact
    (sym c.is_between.ensures ∙ c.if-not-is_between.true))

pub returns-then-not-is_between-clause-place : goal.returns-then-not-is_between-clause-place
returns-then-not-is_between-clause-place c =
    let here = c.fault_here-here.ensures (not_at_end 4 c.in_ok-count.count c.args.reader.now.rest c.array.new.self.rest c.in_ok-count.ensures.exact) in
    omega arith
