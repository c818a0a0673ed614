use Rattle.dpe_tree.specs.Tree.{context}
use Rattle.dpe_core.proofs.Marks.{told_none, told_staying, told_leaving}
use Rattle.dpe_core.proofs.contexts.Contexts.is_taken.Goals as goal

pub returns-in-None : goal.returns-in-None
returns-in-None c =
    let i = c.self.inside in
    told_none i.seed (context i.tree) i.table c.args.self.now c.args.at c.args.locality c.args.stays c.self.view_is c.in-None.ensures.absent

pub returns-then-stays : goal.returns-then-stays
returns-then-stays c =
    let i = c.self.inside in
    let e = c.len-rows.ensures in
    told_staying i.seed (context i.tree) i.table c.args.self.now c.args.at c.args.locality c.args.stays c.self.view_is e.ascending e.marks c.in-Some.other c.in-Some.ensures.found c.if-stays.true

pub returns-else-stays : goal.returns-else-stays
returns-else-stays c =
    let i = c.self.inside in
    let e = c.len-rows.ensures in
    told_leaving i.seed (context i.tree) i.table c.args.self.now c.args.at c.args.locality c.args.stays c.self.view_is e.ascending e.marks c.in-Some.other c.in-Some.ensures.found c.if-stays.false
