use Rattle.std.proofs.Common.{◌≡◌, Err, sym, ap, ◌∙◌}
use Rattle.dpe_box.specs.declared.policy.Unopened.TheVariants as unopened
use Rattle.dpe_box.specs.Sealed.{opened}
use Rattle.dpe_ratchets.proofs.Opening.{not_malformed}
use Rattle.dpe_ratchets.proofs.stage.Stage.open_box.Goals as goal

pub returns-in-Err-Malformed-clause-malformed : goal.returns-in-Err-Malformed-clause-malformed
returns-in-Err-Malformed-clause-malformed c =
    let is : c.unseal.result ≡ Err unopened.Malformed = cc (c.in-Err-Malformed.is, c.in-Err-Malformed.field-0-is) in
    absurd (
    not_malformed c.key_of-key.result c.args.label.now c.args.sealed.now c.in-Some.ensures.form
    (ap (opened c.key_of-key.result c.args.label.now) (sym c.in-Some.ensures.sealed) ∙ c.unseal.ensures.malformed.0 is)
    )
