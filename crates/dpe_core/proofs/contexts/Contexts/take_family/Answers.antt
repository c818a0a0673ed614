use Rattle.dpe_model.specs.Step.{taken_out, family_out}
use Rattle.dpe_tree.specs.Tree.{context}
use Rattle.dpe_core.proofs.Exits.{changed, but, keeps_family, rows_family}
use Rattle.dpe_core.proofs.contexts.Contexts.take_family.Goals as goal

pub end_below-requires-clause-owned : goal.end_below-requires-clause-owned
end_below-requires-clause-owned c =
    let i = c.self.inside in
    let row = c.spend-row in
    but i.seed i.tree i.table c.self.invariant c.args.at row.result row.ensures.row row.new.table row.ensures.rest

pub invariant_of-self : goal.invariant_of-self
invariant_of-self c =
    let i = c.self.inside in
    let row = c.spend-row in
    let below = c.end_below in
    let e = c.retire.ensures in
    keeps_family i.seed i.tree i.table c.self.invariant c.args.at row.result row.ensures.row row.new.table row.ensures.rest
    below.new.tree c.retire.new.self below.new.table below.ensures.owned below.ensures.ends below.ensures.many e.gone e.others e.live

pub returns : goal.returns
returns c =
    let i = c.self.inside in
    let row = c.spend-row in
    let below = c.end_below in
    changed i.seed (context i.tree) i.table c.args.self.now c.args.at row.result (λ r rs. family_out r (taken_out r rs)) _ c.self.view_is row.ensures.row
    (rows_family i.seed i.tree i.table c.self.invariant c.args.at row.result row.ensures.row row.new.table row.ensures.rest row.ensures.rising
    below.new.tree c.retire.new.self below.new.table below.ensures.rows below.ensures.owned below.ensures.ends c.retire.ensures.others)
