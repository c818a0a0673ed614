use Rattle.std.proofs.Common.{length, ◌∙◌, ap, sym, subst, Err}
use Rattle.dpe_box.specs.declared.policy.Unopened.{Unopened}
use Rattle.dpe_box.specs.Sealed.{ciphered, opened}
use Rattle.dpe_box.specs.Unsealed.{Unseals}
use Rattle.dpe_box.proofs.Answering.{unseals-error, unseals-barred, unseals-data}
use Rattle.dpe_box.proofs.sealing.unseal.Goals as goal

pub returns-then-not-admits : goal.returns-then-not-admits
returns-then-not-admits c =
    unseals-barred c.in-Ok.found c.args.cdi.now c.args.label.now c.args.sealed.now c.args.locality c.args.mode c.args.out.now c.in-Ok.ensures (sym c.admits.ensures ∙ c.if-not-admits.true)

pub returns-else-not-admits : goal.returns-else-not-admits
returns-else-not-admits c =
    unseals-data c.in-Ok.found c.args.cdi.now c.args.label.now c.args.sealed.now (length c.ciphertext-text.result.now) c.args.locality c.args.mode c.args.out.now c.open_into.new.out c.in-Ok.ensures
    (sym c.admits.ensures ∙ c.if-not-admits.false) c.ciphertext-text.ensures.bound (c.open_into.ensures.text ∙ ap (ciphered c.in-Ok.found.key) c.ciphertext-text.ensures.text) c.open_into.ensures.rest

pub returns-in-Err : goal.returns-in-Err
returns-in-Err c =
    let P : Unopened → Type 0 = λ u. Unseals (Err u) (opened c.args.cdi.now c.args.label.now c.args.sealed.now) c.args.locality c.args.mode c.args.out.now c.args.out.now in
    subst P (sym c.unopened.ensures) (unseals-error c.in-Err.error c.args.cdi.now c.args.label.now c.args.sealed.now c.args.locality c.args.mode c.args.out.now c.in-Err.ensures)
