use Rattle.std.proofs.Common.{◌≡◌, sym, ◌∙◌, arith}
use Rattle.std.proofs.lemmas.Fmt.{decimal_injective}
use Rattle.dpe_serve.proofs.setting.parse_count.Goals as goal

pub returns-then-number-eq0-clause-none : goal.returns-then-number-eq0-clause-none
returns-then-number-eq0-clause-none c n is some most =
    let same : n ≡ c.in-Some.number = decimal_injective n c.in-Some.number (omega (arith, most, c.requires)) c.in-Some.ensures.range (sym is ∙ c.in-Some.ensures.found) in
    omega (arith, same, some, c.if-number-eq0.true)

pub returns-then-number-limit-clause-none : goal.returns-then-number-limit-clause-none
returns-then-number-limit-clause-none c n is some most =
    let same : n ≡ c.in-Some.number = decimal_injective n c.in-Some.number (omega (arith, most, c.requires)) c.in-Some.ensures.range (sym is ∙ c.in-Some.ensures.found) in
    omega (arith, same, most, c.if-number-limit.true)
