use Rattle.std.proofs.Common.{rules, ◌^◌, ◌<◌, sym, ◌∙◌, arith}
use Rattle.std.proofs.lemmas.Fmt.{decimal_injective}
use Rattle.dpe_tape.proofs.words.parse_commands.Goals as goal

pub returns-then-commands-eq0-clause-none : goal.returns-then-commands-eq0-clause-none
returns-then-commands-eq0-clause-none c n is some most =
    let same = decimal_injective n c.in_ok-commands.commands (omega arith) (omega arith) (sym is ∙ c.in_ok-commands.ensures.found) in
    omega arith

pub returns-then-commands-from-clause-none : goal.returns-then-commands-from-clause-none
returns-then-commands-from-clause-none c n is some most =
    let below : c.in_ok-commands.commands < 2 ^ 64 = search rules in
    let same = decimal_injective n c.in_ok-commands.commands (omega arith) below (sym is ∙ c.in_ok-commands.ensures.found) in
    omega arith
