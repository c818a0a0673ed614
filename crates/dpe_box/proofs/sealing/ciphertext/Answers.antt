use Rattle.std.proofs.Common.{◌≤◌, ℕ, List, length, sym, subst}
use Rattle.dpe_box.proofs.Answering.{middle_is, middle_fits}
use Rattle.dpe_box.proofs.sealing.ciphertext.Goals as goal

pub returns-clause-bound : goal.returns-clause-bound
returns-clause-bound c =
    let P : List ℕ → Type 0 = λ x. length x ≤ 2048 in
    subst P (sym (middle_is c.args.sealed.now c.requires)) (middle_fits c.args.sealed.now c.requires)

pub returns-clause-text : goal.returns-clause-text
returns-clause-text c = middle_is c.args.sealed.now c.requires
