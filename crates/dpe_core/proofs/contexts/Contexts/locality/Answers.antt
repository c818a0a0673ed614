use Rattle.dpe_tree.specs.Tree.{context}
use Rattle.dpe_core.proofs.Views.{told_locality}
use Rattle.dpe_core.proofs.contexts.Contexts.locality.Goals as goal

pub returns : goal.returns
returns c =
    let i = c.self.inside in
    told_locality i.seed (context i.tree) i.table c.args.self.now c.args.at c.row.result.now c.self.view_is c.row.ensures
