use Rattle.std.proofs.Common.{◌≡◌, ℕ, ◌≤◌, List, length, ap, sym, ◌∙◌, subst, rules}
use Rattle.dpe_messages.specs.Class as classes
use Rattle.dpe_messages.specs.Commands.{request_of}
use Rattle.dpe_messages.specs.Request.{Request}
use Rattle.dpe_messages.proofs.AcceptedLemmas.{accepted_in_ranges}
use Rattle.dpe_model.specs.State.{Machine, Valid}
use Rattle.dpe_model.specs.Step.{Outcome, obeyed}
use Rattle.dpe_model.proofs.PlainLemmas.{step-accepted}
use Rattle.dpe_model.proofs.ValidStep.{stays_valid}
use Rattle.dpe_core.specs.declared.state.CoreState.{CoreState}
use Rattle.dpe_core.specs.CoreState.{state_of, Becomes}
use Rattle.dpe_core.proofs.executor.Core.execute.Goals as goal

-- what an obeyed command leads to is valid, since the step leads to it
obeyed_valid : (old new : CoreState) (locality : ℕ) (random payload : List ℕ) (request : Request) → locality ≤ 7 → length random ≡ 32
    → classes.class payload ≡ classes.accepted request → Valid (state_of old)
    → Becomes old new (obeyed old.contexts.seed (state_of old) locality random request).state → Valid (state_of new)
obeyed_valid old new locality random payload request l n is valid becomes =
    subst Valid
    (ap (λ (o : Outcome). o.state) (step-accepted old.contexts.seed (state_of old) locality random payload request is) ∙ sym (ap (λ (m : Machine). m.state) becomes))
    (stays_valid old.contexts.seed (state_of old) locality random payload l n valid)

pub obey-requires-clause-ranges : goal.obey-requires-clause-ranges
obey-requires-clause-ranges g c = accepted_in_ranges c.args.payload.now (request_of c.in-Ok.command) (sym c.in-Ok.ensures.class)

pub invariant_of-self : goal.invariant_of-self
invariant_of-self g c =
    let random : length c.args.random.now ≡ 32 = search rules in
    obeyed_valid c.self.inside.state c.obey.new.self c.args.locality c.args.random.now c.args.payload.now (request_of c.in-Ok.command) c.requires.locality random
    (sym c.in-Ok.ensures.class) c.self.invariant c.obey.ensures.obeys.0

pub returns-in-Ok-clause-valid : goal.returns-in-Ok-clause-valid
returns-in-Ok-clause-valid g c =
    let random : length c.args.random.now ≡ 32 = search rules in
    obeyed_valid c.self.inside.state c.obey.new.self c.args.locality c.args.random.now c.args.payload.now (request_of c.in-Ok.command) c.requires.locality random
    (sym c.in-Ok.ensures.class) c.self.invariant c.obey.ensures.obeys.0
