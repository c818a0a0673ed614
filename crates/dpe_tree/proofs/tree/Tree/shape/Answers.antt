use Rattle.std.proofs.Common.{subst}
use Rattle.dpe_tree.specs.Tree.{IsTree}
use Rattle.dpe_tree.proofs.Viewed.{tree_is}
use Rattle.dpe_tree.proofs.tree.Tree.shape.Goals as goal

pub returns : goal.returns
returns c = subst IsTree c.self.view_is (tree_is c.self.inside.links.items c.self.inside.states.items c.self.inside.free.items c.self.invariant.0)
