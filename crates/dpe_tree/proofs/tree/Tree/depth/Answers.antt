use Rattle.std.proofs.Common.{arith}
use Rattle.dpe_tree.proofs.Reading.{within, depth_read}
use Rattle.dpe_tree.proofs.tree.Tree.depth.Goals as goal

pub index-requires : goal.index-requires
index-requires c =
    let lt = within c.self.inside.links.items c.self.inside.states.items c.self.inside.free.items c.self.invariant.0 c.args.self.now c.self.view_is c.args.place.0 c.requires in omega arith

pub returns : goal.returns
returns c =
    depth_read c.self.inside.links.items c.self.inside.states.items c.self.inside.free.items c.self.invariant.0 c.args.self.now c.self.view_is
    c.args.place.0 c.index.result.now c.requires c.index.ensures
