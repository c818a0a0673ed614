use Rattle.std.proofs.Common.{◌/◌, ◌++◌, List, ℕ, length, ap, ◌∙◌, arith}
use Rattle.std.specs.Fmt.{decimal}
use Rattle.std.proofs.lemmas.List.{length-append}
use Rattle.dpe_text.proofs.Digits.{only_digit, some_digit, digits_before, last_digit}
use Rattle.dpe_text.proofs.text.Text.+push_digits.Goals as goal

pub push-requires : goal.push-requires
push-requires t c = let some = some_digit c.args.number c.ranges.number.fits in omega (arith, some, c.requires)

pub returns-then-number-lt10 : goal.returns-then-number-lt10
returns-then-number-lt10 t c = c.push.ensures.piece ∙ ap (λ (d : List ℕ). c.args.self.now ++ d) (only_digit c.args.number c.if-number-lt10.true)

pub push_digits-requires : goal.push_digits-requires
push_digits-requires t c = let before = digits_before c.args.number (omega arith) c.ranges.number.fits in (omega arith, omega (arith, before, c.requires))

pub push-requires-2 : goal.push-requires-2
push-requires-2 t c =
    let before = digits_before c.args.number (omega arith) c.ranges.number.fits in
    let long = ap length c.push_digits.ensures ∙ length-append c.args.self.now (decimal (c.args.number / 10)) in
    omega (arith, before, long, c.requires)

pub returns : goal.returns
returns t c = c.push-2.ensures.piece ∙ last_digit c.args.number c.args.self.now c.push_digits.new.self (omega arith) c.ranges.number.fits c.push_digits.ensures
