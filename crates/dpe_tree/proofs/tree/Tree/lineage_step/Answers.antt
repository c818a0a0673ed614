use Rattle.std.proofs.Common.{arith, refl}
use Rattle.dpe_tree.proofs.Reading.{within, root_read, not_root, step_read}
use Rattle.dpe_tree.proofs.tree.Tree.lineage_step.Goals as goal

pub index-link-requires : goal.index-link-requires
index-link-requires c =
    let lt = within c.self.inside.links.items c.self.inside.states.items c.self.inside.free.items c.self.invariant.0 c.args.self.now c.self.view_is c.args.place.0 c.requires in omega arith

pub returns-then-link-eq0-clause-root : goal.returns-then-link-eq0-clause-root
returns-then-link-eq0-clause-root c = (
  λ _. root_read c.self.inside.links.items c.self.inside.states.items c.self.inside.free.items c.self.invariant.0 c.args.self.now c.self.view_is
      c.args.place.0 c.index-link.result.now c.requires c.index-link.ensures c.if-link-eq0.true,
  λ _. refl,
)

pub returns-else-link-eq0-clause-root : goal.returns-else-link-eq0-clause-root
returns-else-link-eq0-clause-root c = (
  λ e. cc e,
  λ none. absurd (not_root c.self.inside.links.items c.self.inside.states.items c.self.inside.free.items c.self.invariant.0 c.args.self.now c.self.view_is
      c.args.place.0 c.index-link.result.now c.requires c.index-link.ensures c.if-link-eq0.false none),
)

pub returns-else-link-eq0-clause-step : goal.returns-else-link-eq0-clause-step
returns-else-link-eq0-clause-step c =
    step_read c.self.inside.links.items c.self.inside.states.items c.self.inside.free.items c.self.invariant.0 c.args.self.now c.self.view_is
    c.args.place.0 c.index-link.result.now c.requires c.index-link.ensures c.if-link-eq0.false
