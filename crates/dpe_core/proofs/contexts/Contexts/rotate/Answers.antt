use Rattle.std.proofs.Common.{◌++◌, ◌∷◌, [], false, refl}
use Rattle.dpe_model.specs.Step.{renamed, marked, taken_out}
use Rattle.dpe_tree.specs.Tree.{context}
use Rattle.dpe_core.specs.Kept.{row_of}
use Rattle.dpe_core.proofs.Marks.{mark_anew, seen_here}
use Rattle.dpe_core.proofs.Exits.{changed, last_left, keeps_renamed, rows_again}
use Rattle.dpe_core.proofs.contexts.Contexts.rotate.Goals as goal

pub issue-requires-clause-last : goal.issue-requires-clause-last
issue-requires-clause-last c =
    let i = c.self.inside in
    last_left i.seed (context i.tree) i.table c.spend-row.new.table c.args.self.now c.args.at c.args.handle c.self.view_is c.spend-row.ensures.rest c.requires.last

pub issue-requires-clause-mark : goal.issue-requires-clause-mark
issue-requires-clause-mark c =
    let i = c.self.inside in
    mark_anew i.seed (context i.tree) i.table c.spend-row.new.table c.args.self.now c.args.at c.spend-row.result c.self.view_is c.spend-row.ensures.rising c.spend-row.ensures.row c.spend-row.ensures.rest
    c.args.default false c.spend-row.result.locality
    (c.requires.marks (row_of (context i.tree) c.spend-row.result) (seen_here i.seed (context i.tree) i.table c.spend-row.new.table c.args.self.now c.args.at c.spend-row.result c.self.view_is c.spend-row.ensures.rising c.spend-row.ensures.row c.spend-row.ensures.rest))

pub invariant_of-self : goal.invariant_of-self
invariant_of-self c =
    let i = c.self.inside in
    keeps_renamed i.seed i.tree i.table c.self.invariant c.args.at c.spend-row.result c.spend-row.ensures.row c.spend-row.new.table c.spend-row.ensures.rest _ c.issue.new.self refl c.issue.ensures

pub returns : goal.returns
returns c =
    let i = c.self.inside in
    let row = c.spend-row in
    changed i.seed (context i.tree) i.table c.args.self.now c.args.at row.result (λ r rs. taken_out r rs ++ marked (renamed r c.args.handle) c.args.default ∷ []) _ c.self.view_is row.ensures.row
    (rows_again i.seed i.tree i.table c.self.invariant c.args.at row.result row.ensures.row row.new.table row.ensures.rest row.ensures.rising _ c.issue.new.self (marked (renamed (row_of (context i.tree) row.result) c.args.handle) c.args.default) refl c.issue.ensures)
