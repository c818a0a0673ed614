use Rattle.std.proofs.Common.{rules, ◌^◌, ◌<◌, sym, ◌∙◌, arith}
use Rattle.std.proofs.lemmas.Fmt.{decimal_injective}
use Rattle.dpe_ratchets.proofs.words.parse_up_to.Goals as goal

pub returns-then-number-from-clause-none : goal.returns-then-number-from-clause-none
returns-then-number-from-clause-none c n is most =
    let below : c.in_ok-number.number < 2 ^ 64 = search rules in
    let same = decimal_injective n c.in_ok-number.number (omega arith) below (sym is ∙ c.in_ok-number.ensures.found) in
    omega arith
