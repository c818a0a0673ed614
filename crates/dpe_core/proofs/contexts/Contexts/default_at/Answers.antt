use Rattle.dpe_tree.specs.Tree.{context}
use Rattle.dpe_core.proofs.Marks.{found_default, absent_default}
use Rattle.dpe_core.proofs.contexts.Contexts.default_at.Goals as goal

pub returns-clause-found : goal.returns-clause-found
returns-clause-found c =
    let i = c.self.inside in
    found_default i.seed (context i.tree) i.table c.args.self.now c.args.locality c.default_at.result c.self.view_is c.len-rows.ensures.marks c.default_at.ensures.found

pub returns-clause-absent : goal.returns-clause-absent
returns-clause-absent c =
    let i = c.self.inside in
    absent_default i.seed (context i.tree) i.table c.args.self.now c.args.locality c.default_at.result c.self.view_is c.default_at.ensures.absent
