use Rattle.std.proofs.Common.{ap, ◌∙◌, ◌++◌}
use Rattle.dpe_desk.proofs.Joining.{names_apart}
use Rattle.dpe_desk.proofs.desk.Desk.join.Goals as goal

pub returns-then-is_none-clause-apart : goal.returns-then-is_none-clause-apart
returns-then-is_none-clause-apart g c =
    let t = c.take_in.ensures in
    names_apart _ _ _ (ap (λ v. v.names) t.known.after ∙ (λ i. (c.pass.view_is i).view.names ++ (c.other.view_is i).view.names)) t.sound.different

pub returns-else-is_none-clause-apart : goal.returns-else-is_none-clause-apart
returns-else-is_none-clause-apart g c =
    let t = c.take_in.ensures in
    names_apart _ _ _ (ap (λ v. v.names) t.known.after ∙ (λ i. (c.pass.view_is i).view.names ++ (c.other.view_is i).view.names)) t.sound.different
