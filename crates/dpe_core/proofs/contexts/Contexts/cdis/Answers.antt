use Rattle.dpe_core.proofs.Exits.{within_here, cdis_here}
use Rattle.dpe_core.proofs.contexts.Contexts.cdis.Goals as goal

pub cdis-requires : goal.cdis-requires
cdis-requires c =
    let i = c.self.inside in
    within_here i.seed i.tree i.table c.args.self.now c.self.view_is c.args.at c.row.result.now c.row.ensures c.self.invariant.owned c.shape.ensures

pub returns : goal.returns
returns c =
    let i = c.self.inside in
    cdis_here i.seed i.tree i.table c.args.self.now c.self.view_is c.args.at c.row.result.now c.row.ensures c.self.invariant.owned c.self.invariant.folded c.cdis.result.now c.cdis.ensures
