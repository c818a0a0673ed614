use Rattle.std.proofs.Common.{arith, rules}
use Rattle.std.proofs.lemmas.List.{length-map}
use Rattle.dpe_serve.specs.Setting.{texts}
use Rattle.dpe_serve.proofs.Settings.{no_doors, is_spelled}
use Rattle.dpe_serve.proofs.setting.read_parts.Goals as goal

pub returns-then-not-are_doors-clause-none : goal.returns-then-not-are_doors-clause-none
returns-then-not-are_doors-clause-none c =
    let a = c.args in
    no_doors a.seed.now a.journal.now a.each.now a.entries.now a.first.now (texts a.doors.now) c.if-not-are_doors.ensures.no

pub returns-clause-found : goal.returns-clause-found
returns-clause-found c =
    let a = c.args in
    let number = length-map a.doors.now (λ word. word.now) in
    is_spelled a.seed.now a.journal.now a.each.now a.entries.now a.first.now (texts a.doors.now)
    c.in-Some.each c.in-Some-parse_count.entries c.in-Some-parse_number.first
    (search rules) (search rules)
    c.in-Some.ensures.found c.in-Some-parse_count.ensures.found
    (c.in-Some-parse_number.ensures.found, c.in-Some-parse_number.ensures.range)
    c.if-not-are_doors.ensures.yes (omega (arith, number, c.requires.0)) (omega (arith, number, c.requires.1))
