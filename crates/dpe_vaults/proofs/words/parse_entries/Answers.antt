use Rattle.std.proofs.Common.{rules, ◌^◌, ◌<◌, sym, ◌∙◌, arith}
use Rattle.std.proofs.lemmas.Fmt.{decimal_injective}
use Rattle.dpe_vaults.proofs.words.parse_entries.Goals as goal

pub returns-then-entries-eq0-clause-none : goal.returns-then-entries-eq0-clause-none
returns-then-entries-eq0-clause-none c n is some most =
    let same = decimal_injective n c.in_ok-entries.entries (omega arith) (omega arith) (sym is ∙ c.in_ok-entries.ensures.found) in
    omega arith

pub returns-then-entries-from-clause-none : goal.returns-then-entries-from-clause-none
returns-then-entries-from-clause-none c n is some most =
    let below : c.in_ok-entries.entries < 2 ^ 64 = search rules in
    let same = decimal_injective n c.in_ok-entries.entries (omega arith) below (sym is ∙ c.in_ok-entries.ensures.found) in
    omega arith
