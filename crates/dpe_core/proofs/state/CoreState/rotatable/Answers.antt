use Rattle.std.proofs.Common.{sym, ◌∙◌}
use Rattle.dpe_messages.specs.Commands.{name_of}
use Rattle.dpe_core.specs.CoreState.{state_of}
use Rattle.dpe_core.proofs.Judged.{rotate_judged}
use Rattle.dpe_core.proofs.state.CoreState.rotatable.Goals as goal

pub returns-in-Some-clause-code : goal.returns-in-Some-clause-code
returns-in-Some-clause-code c =
    let used = c.in-Ok.ensures.place in
    sym c.in-Some.is ∙ (c.rotate_refusal.ensures.code used.0 used.1
    ∙ sym (rotate_judged c.args.self.now.contexts.seed (state_of c.args.self.now) c.args.locality (name_of c.args.handle) c.args.default used.0 used.2 (c.in-Ok.ensures.owner used.0 used.1)))

pub returns-in-None-clause-code : goal.returns-in-None-clause-code
returns-in-None-clause-code c =
    let used = c.in-Ok.ensures.place in
    sym c.in-None.is ∙ (c.rotate_refusal.ensures.code used.0 used.1
    ∙ sym (rotate_judged c.args.self.now.contexts.seed (state_of c.args.self.now) c.args.locality (name_of c.args.handle) c.args.default used.0 used.2 (c.in-Ok.ensures.owner used.0 used.1)))
