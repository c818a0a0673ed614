use Rattle.std.proofs.Common.{sym, subst}
use Rattle.dpe_messages.specs.Commands.{name_of}
use Rattle.dpe_model.specs.State.{serial}
use Rattle.dpe_core.specs.declared.contexts.Child.{Child}
use Rattle.dpe_core.specs.Contexts.{IsAfter}
use Rattle.dpe_core.specs.CoreState.{state_of}
use Rattle.dpe_core.proofs.Serials.{place_in, new_is_after, next_is_unborn}
use Rattle.dpe_core.proofs.state.CoreState.derive_at.Goals as goal

pub derive-requires-clause-place : goal.derive-requires-clause-place
derive-requires-clause-place g c = place_in c.args.self.now.contexts.rows c.args.locality (name_of c.args.derive.now.handle) c.args.at c.requires.meant

pub derive-requires-clause-unborn : goal.derive-requires-clause-unborn
derive-requires-clause-unborn g c = next_is_unborn (state_of c.args.self.now) c.requires.valid

pub derive-requires-clause-last : goal.derive-requires-clause-last
derive-requires-clause-last g c =
    subst (λ (child : Child). IsAfter c.args.self.now.contexts.rows (serial child.handle)) (sym c.child-child.ensures)
    (new_is_after (state_of c.args.self.now) c.args.random.now c.requires.valid)

pub derive_retaining-requires-clause-place : goal.derive_retaining-requires-clause-place
derive_retaining-requires-clause-place g c = place_in c.args.self.now.contexts.rows c.args.locality (name_of c.args.derive.now.handle) c.args.at c.requires.meant

pub derive_retaining-requires-clause-unborn : goal.derive_retaining-requires-clause-unborn
derive_retaining-requires-clause-unborn g c = next_is_unborn (state_of c.args.self.now) c.requires.valid

pub derive_retaining-requires-clause-last : goal.derive_retaining-requires-clause-last
derive_retaining-requires-clause-last g c =
    subst (λ (child : Child). IsAfter c.args.self.now.contexts.rows (serial child.handle)) (sym c.child-child.ensures)
    (new_is_after (state_of c.args.self.now) c.args.random.now c.requires.valid)
