use Rattle.std.proofs.Common.{Err, sym, ap, ◌∙◌, arith}
use Rattle.dpe_quotes.proofs.Refusing.{not_at_end, number_refused}
use Rattle.dpe_quotes.proofs.parts.read_mode.Goals as goal

pub returns-then-not-is_between-clause-read : goal.returns-then-not-is_between-clause-read
returns-then-not-is_between-clause-read c =
    let here = c.fault_here-here.ensures (not_at_end 0 c.in_ok-mode.mode c.args.reader.now.rest c.uint.new.self.rest c.in_ok-mode.ensures.exact) in
    ap Err here ∙ sym (number_refused 0 3 c.in_ok-mode.mode c.args.reader.now c.uint.new.self.rest c.in_ok-mode.ensures.exact
    (sym c.is_between.ensures ∙ c.if-not-is_between.true))

pub returns-then-not-is_between-clause-place : goal.returns-then-not-is_between-clause-place
returns-then-not-is_between-clause-place c =
    let here = c.fault_here-here.ensures (not_at_end 0 c.in_ok-mode.mode c.args.reader.now.rest c.uint.new.self.rest c.in_ok-mode.ensures.exact) in
    omega arith
