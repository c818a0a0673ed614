use Rattle.std.proofs.Common.{length, ◌∙◌, ap}
use Rattle.dpe_box.specs.Sealed.{ciphered}
use Rattle.dpe_box.proofs.Answering.{opens-error, opens-data}
use Rattle.dpe_box.proofs.sealing.open_box.Goals as goal

pub returns-in-Ok : goal.returns-in-Ok
returns-in-Ok c =
    opens-data c.in-Ok.found c.args.cdi.now c.args.label.now c.args.sealed.now (length c.ciphertext-text.result.now) c.args.out.now c.open_into.new.out c.in-Ok.ensures
    c.ciphertext-text.ensures.bound (c.open_into.ensures.text ∙ ap (ciphered c.in-Ok.found.key) c.ciphertext-text.ensures.text) c.open_into.ensures.rest

pub returns-in-Err : goal.returns-in-Err
returns-in-Err c = opens-error c.in-Err.error c.args.cdi.now c.args.label.now c.args.sealed.now c.args.out.now c.in-Err.ensures
