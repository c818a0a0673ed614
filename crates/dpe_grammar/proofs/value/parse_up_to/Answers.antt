use Rattle.std.proofs.Common.{sym, arith, ◌∙◌}
use Rattle.dpe_grammar.proofs.Numbers.{read_back, read_beyond, read_none, not_text, wide}
use Rattle.dpe_grammar.proofs.value.parse_up_to.Goals as goal

pub returns-in_default : goal.returns-in_default
returns-in_default c = sym (not_text c.args.text.now c.args.most c.in_default.ensures.cases.0 c.ranges.most.fits)

pub returns-in-None : goal.returns-in-None
returns-in-None c =
    sym (read_none c.args.text.now c.args.most (λ n lt is. c.in-None.ensures.none n (wide n lt) (c.in-Ok.ensures.cases.0 ∙ is)) c.ranges.most.fits)

pub returns-then-n-from : goal.returns-then-n-from
returns-then-n-from c =
    sym (read_beyond c.args.text.now c.in-Some.n c.args.most (sym c.in-Ok.ensures.cases.0 ∙ c.in-Some.ensures.found) c.in-Some.ensures.range (let gt = c.if-n-from.true in omega arith))

pub returns-else-n-from : goal.returns-else-n-from
returns-else-n-from c =
    sym (read_back c.args.text.now c.in-Some.n c.args.most (sym c.in-Ok.ensures.cases.0 ∙ c.in-Some.ensures.found) c.in-Some.ensures.range (let le = c.if-n-from.false in omega arith))
