use Rattle.std.proofs.Common.{rules}
use Rattle.dpe_core.proofs.state.CoreState.initialize.Goals as goal

pub returns-in-Some-clause-obeys : goal.returns-in-Some-clause-obeys
returns-in-Some-clause-obeys c = search (rules, c.initialize_refusal.ensures.code c.args.default)

pub root-requires : goal.root-requires
root-requires c = search (rules, c.initialize_refusal.ensures.code c.args.default)

pub overflow_add-self : goal.overflow_add-self
overflow_add-self c = search (rules, c.initialize_refusal.ensures.code c.args.default)

pub returns-clause-obeys : goal.returns-clause-obeys
returns-clause-obeys c = search (rules, c.initialize_refusal.ensures.code c.args.default)
