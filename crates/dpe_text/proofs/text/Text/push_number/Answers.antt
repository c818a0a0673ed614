use Rattle.std.proofs.Common.{length, ap, ◌∙◌, arith}
use Rattle.std.specs.Fmt.{decimal}
use Rattle.std.proofs.lemmas.List.{length-append}
use Rattle.dpe_text.proofs.Digits.{few_digits}
use Rattle.dpe_text.proofs.text.Text.push_number.Goals as goal

pub push_digits-requires : goal.push_digits-requires
push_digits-requires c = let few = few_digits c.args.number c.ranges.number.fits in omega (arith, few, c.requires)

pub returns-clause-few : goal.returns-clause-few
returns-clause-few c =
    let few = few_digits c.args.number c.ranges.number.fits in
    let long = ap length c.push_digits.ensures ∙ length-append c.args.self.now (decimal c.args.number) in
    omega (arith, few, long)
