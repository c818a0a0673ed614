use Rattle.dpe_tree.proofs.Reading.{cdis_read}
use Rattle.dpe_tree.proofs.tree.Tree.cdis.Goals as goal

pub returns : goal.returns
returns c =
    cdis_read c.self.inside.links.items c.self.inside.states.items c.self.inside.free.items c.self.invariant.0 c.args.self.now c.self.view_is
    c.args.place.0 c.index.result.now c.requires c.index.ensures
