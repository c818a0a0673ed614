use Rattle.dpe_tree.specs.Tree.{context}
use Rattle.dpe_core.proofs.Views.{found_handle, absent_handle}
use Rattle.dpe_core.proofs.contexts.Contexts.named.Goals as goal

pub returns-clause-found : goal.returns-clause-found
returns-clause-found c =
    let i = c.self.inside in
    found_handle i.seed (context i.tree) i.table c.args.self.now c.args.handle.now c.find.result c.self.view_is c.len-rows.ensures.ascending c.find.ensures.found

pub returns-clause-absent : goal.returns-clause-absent
returns-clause-absent c =
    let i = c.self.inside in
    absent_handle i.seed (context i.tree) i.table c.args.self.now c.args.handle.now c.find.result c.self.view_is c.find.ensures.absent
