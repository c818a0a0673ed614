use Rattle.dpe_model.specs.Step.{taken_out}
use Rattle.dpe_tree.specs.Tree.{context}
use Rattle.dpe_core.proofs.Owned.{row_is_live}
use Rattle.dpe_core.proofs.Places.{is_live_place}
use Rattle.dpe_core.proofs.Exits.{changed, keeps_less, rows_less}
use Rattle.dpe_core.proofs.contexts.Contexts.take_out.Goals as goal

pub retire-requires : goal.retire-requires
retire-requires c =
    let i = c.self.inside in
    is_live_place i.tree _ (row_is_live (context i.tree) i.table c.args.at c.spend-row.result c.self.invariant.owned c.spend-row.ensures.row)

pub invariant_of-self : goal.invariant_of-self
invariant_of-self c =
    let i = c.self.inside in
    let row = c.spend-row in
    let e = c.retire.ensures in
    keeps_less i.seed i.tree i.table c.self.invariant c.args.at row.result row.ensures.row row.new.table row.ensures.rest c.retire.new.self e.gone e.others e.live

pub returns : goal.returns
returns c =
    let i = c.self.inside in
    let row = c.spend-row in
    changed i.seed (context i.tree) i.table c.args.self.now c.args.at row.result (λ r rs. taken_out r rs) _ c.self.view_is row.ensures.row
    (rows_less i.seed i.tree i.table c.self.invariant c.args.at row.result row.ensures.row row.new.table row.ensures.rest row.ensures.rising c.retire.new.self c.retire.ensures.others)
