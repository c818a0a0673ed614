use Rattle.std.proofs.Common.{◌++◌, ◌∷◌, [], refl}
use Rattle.dpe_model.specs.Step.{renamed, taken_out}
use Rattle.dpe_tree.specs.Tree.{context}
use Rattle.dpe_core.specs.Kept.{row_of}
use Rattle.dpe_core.proofs.Marks.{mark_again}
use Rattle.dpe_core.proofs.Exits.{changed, last_left, keeps_renamed, rows_again}
use Rattle.dpe_core.proofs.contexts.Contexts.rename.Goals as goal

pub issue-requires-clause-last : goal.issue-requires-clause-last
issue-requires-clause-last c =
    let i = c.self.inside in
    last_left i.seed (context i.tree) i.table c.spend-row.new.table c.args.self.now c.args.at c.args.handle c.self.view_is c.spend-row.ensures.rest c.requires.last

pub issue-requires-clause-mark : goal.issue-requires-clause-mark
issue-requires-clause-mark c =
    let i = c.self.inside in
    mark_again i.table c.spend-row.new.table c.args.at c.spend-row.result c.spend-row.ensures.marks c.spend-row.ensures.row c.spend-row.ensures.rest

pub invariant_of-self : goal.invariant_of-self
invariant_of-self c =
    let i = c.self.inside in
    keeps_renamed i.seed i.tree i.table c.self.invariant c.args.at c.spend-row.result c.spend-row.ensures.row c.spend-row.new.table c.spend-row.ensures.rest _ c.issue.new.self refl c.issue.ensures

pub returns : goal.returns
returns c =
    let i = c.self.inside in
    let row = c.spend-row in
    changed i.seed (context i.tree) i.table c.args.self.now c.args.at row.result (λ r rs. taken_out r rs ++ renamed r c.args.handle ∷ []) _ c.self.view_is row.ensures.row
    (rows_again i.seed i.tree i.table c.self.invariant c.args.at row.result row.ensures.row row.new.table row.ensures.rest row.ensures.rising _ c.issue.new.self (renamed (row_of (context i.tree) row.result) c.args.handle) refl c.issue.ensures)
