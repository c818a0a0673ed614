use Rattle.std.proofs.Common.{◌≡◌, sym, ◌∙◌, arith}
use Rattle.std.proofs.lemmas.Fmt.{decimal_injective}
use Rattle.dpe_audit.proofs.words.parse_u32.Goals as goal

pub returns-then-number-from-clause-none : goal.returns-then-number-from-clause-none
returns-then-number-from-clause-none c n below is =
    let same : n ≡ c.in-Some.number = decimal_injective n c.in-Some.number (omega (arith, below)) c.in-Some.ensures.range (sym is ∙ c.in-Some.ensures.found) in
    omega (arith, same, below, c.if-number-from.true, c.from.ensures)
