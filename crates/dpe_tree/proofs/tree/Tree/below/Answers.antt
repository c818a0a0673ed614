use Rattle.std.proofs.Common.{arith, refl}
use Rattle.dpe_tree.proofs.Reading.{within, below_requires, below_answer, below_deeper}
use Rattle.dpe_tree.proofs.tree.Tree.below.Goals as goal

pub index-requires : goal.index-requires
index-requires c =
    let lt = within c.self.inside.links.items c.self.inside.states.items c.self.inside.free.items c.self.invariant.0 c.args.self.now c.self.view_is c.args.place.0 c.requires.place in omega arith

pub index-requires-2 : goal.index-requires-2
index-requires-2 c =
    let lt = within c.self.inside.links.items c.self.inside.states.items c.self.inside.free.items c.self.invariant.0 c.args.self.now c.self.view_is c.args.above.0 c.requires.above in omega arith

pub ancestor-requires : goal.ancestor-requires
ancestor-requires c =
    below_requires c.self.inside.links.items c.self.inside.states.items c.self.inside.free.items c.self.invariant.0 c.args.self.now c.self.view_is c.deref.result.now c.deref.ensures.value c.args.place.0 c.args.above.0
    c.index.result.now c.index-2.result.now c.requires.place c.requires.above c.index.ensures c.index-2.ensures

pub returns-then-depth_above-depth : goal.returns-then-depth_above-depth
returns-then-depth_above-depth c =
    below_answer c.self.inside.links.items c.self.inside.states.items c.self.inside.free.items c.self.invariant.0 c.args.self.now c.self.view_is c.deref.result.now c.deref.ensures.value c.args.place.0 c.args.above.0
    c.index.result.now c.index-2.result.now c.requires.place c.requires.above c.index.ensures c.index-2.ensures
    c.ancestor.result c.if-depth_above-depth.true c.ancestor.ensures

pub returns-else-depth_above-depth : goal.returns-else-depth_above-depth
returns-else-depth_above-depth c =
    below_deeper c.self.inside.links.items c.self.inside.states.items c.self.inside.free.items c.self.invariant.0 c.args.self.now c.self.view_is c.self.inside.links.items refl c.args.place.0 c.args.above.0
    c.index.result.now c.index-2.result.now c.requires.place c.requires.above c.index.ensures c.index-2.ensures c.if-depth_above-depth.false
