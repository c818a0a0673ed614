use Rattle.std.proofs.Common.{◌≡◌, ℕ, List, Option, None, IfNone, sym, subst}
use Rattle.std.specs.Borrow.{Bor}
use Rattle.dpe_messages.specs.Commands.{name_of}
use Rattle.dpe_model.specs.Verdict.{row_for}
use Rattle.dpe_core.proofs.contexts.Contexts.meant.Goals as goal

pub returns-in-Some-clause-absent : goal.returns-in-Some-clause-absent
returns-in-Some-clause-absent c =
    subst (λ (h : Option (Bor (List ℕ))). IfNone c.named.result (row_for c.args.self.now.rows c.args.locality (name_of h) ≡ None)) (sym c.in-Some.is)
    (c.named.ensures.absent c.args.locality)
