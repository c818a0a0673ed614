use Rattle.dpe_tree.specs.Tree.{context}
use Rattle.dpe_core.proofs.Owned.{row_is_live}
use Rattle.dpe_core.proofs.Places.{is_used_place}
use Rattle.dpe_core.proofs.Views.{told_row}
use Rattle.dpe_core.proofs.contexts.Contexts.row.Goals as goal

pub depth-requires : goal.depth-requires
depth-requires c =
    let i = c.self.inside in
    is_used_place i.tree _ (row_is_live (context i.tree) i.table c.args.at c.row-row.result.now c.self.invariant.owned c.row-row.ensures)

pub mode-requires : goal.mode-requires
mode-requires c =
    let i = c.self.inside in
    is_used_place i.tree _ (row_is_live (context i.tree) i.table c.args.at c.row-row.result.now c.self.invariant.owned c.row-row.ensures)

pub returns : goal.returns
returns c =
    let i = c.self.inside in
    told_row i.seed i.tree i.table c.args.self.now c.args.at c.row-row.result.now _ _ c.self.view_is c.self.invariant.owned c.row-row.ensures c.depth.ensures c.mode.ensures
