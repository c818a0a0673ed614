use Rattle.std.proofs.Common.{◌++◌, ◌∷◌, [], false, ap}
use Rattle.dpe_handles.specs.declared.row.Row.{Row}
use Rattle.dpe_tree.specs.Tree.{context}
use Rattle.dpe_model.specs.Step.{taken_out}
use Rattle.dpe_core.specs.Contexts.{child_of}
use Rattle.dpe_core.proofs.Owned.{row_is_live}
use Rattle.dpe_core.proofs.Places.{is_live_place}
use Rattle.dpe_core.proofs.Exits.{changed, within_here, depth_here, unborn_here, last_of_child, keeps_derived, rows_derived}
use Rattle.dpe_core.specs.Kept.{row_of}
use Rattle.dpe_core.proofs.Marks.{mark_of_child, mark_anew, seen_here}
use Rattle.dpe_core.proofs.contexts.Contexts.derive.Goals as goal

pub cdis-requires : goal.cdis-requires
cdis-requires g c =
    let i = c.self.inside in
    within_here i.seed i.tree i.table c.args.self.now c.self.view_is c.args.at c.spend-row.result c.spend-row.ensures.row c.self.invariant.owned c.shape.ensures

pub replace-place-requires-clause-parent : goal.replace-place-requires-clause-parent
replace-place-requires-clause-parent g c =
    let i = c.self.inside in
    is_live_place i.tree _ (row_is_live (context i.tree) i.table c.args.at c.spend-row.result c.self.invariant.owned c.spend-row.ensures.row)

pub replace-place-requires-clause-depth : goal.replace-place-requires-clause-depth
replace-place-requires-clause-depth g c =
    let i = c.self.inside in
    depth_here i.seed i.tree i.table c.args.self.now c.self.view_is c.args.at c.spend-row.result c.spend-row.ensures.row c.self.invariant.owned c.requires.depth

pub replace-place-requires-clause-birth : goal.replace-place-requires-clause-birth
replace-place-requires-clause-birth g c =
    let i = c.self.inside in
    unborn_here i.seed i.tree i.table c.args.self.now c.self.view_is c.args.at c.spend-row.result c.spend-row.ensures.row c.self.invariant.owned c.args.birth c.shape.ensures c.requires.unborn

pub issue-requires-clause-last : goal.issue-requires-clause-last
issue-requires-clause-last g c =
    let i = c.self.inside in
    last_of_child i.seed (context i.tree) i.table c.spend-row.new.table c.args.self.now c.args.at c.args.child.now c.row_at.result _ c.row_at.ensures c.self.view_is c.spend-row.ensures.rest c.requires.last

pub issue-requires-clause-mark : goal.issue-requires-clause-mark
issue-requires-clause-mark g c =
    let i = c.self.inside in
    let e = c.spend-row.ensures in
    mark_of_child c.spend-row.new.table c.args.child.now c.row_at.result _ c.row_at.ensures
    (mark_anew i.seed (context i.tree) i.table c.spend-row.new.table c.args.self.now c.args.at c.spend-row.result c.self.view_is e.rising e.row e.rest
    c.args.child.now.default false c.args.child.now.locality (c.requires.marks (row_of (context i.tree) c.spend-row.result) (seen_here i.seed (context i.tree) i.table c.spend-row.new.table c.args.self.now c.args.at c.spend-row.result c.self.view_is e.rising e.row e.rest)))

pub invariant_of-self : goal.invariant_of-self
invariant_of-self g c =
    let i = c.self.inside in
    let row = c.spend-row in
    let new = c.replace-place in
    keeps_derived i.seed i.tree i.table c.self.invariant c.args.at row.result row.ensures.row row.new.table row.ensures.rest
    new.new.self new.result.0 c.args.birth c.args.input.now c.next-cdis.result new.ensures.free new.ensures.tree
    _ c.row_at.result c.issue.new.self c.cdis.ensures c.next-cdis.ensures.attest c.next-cdis.ensures.seal new.ensures.live (ap (λ (r : Row). r.place) c.row_at.ensures) c.issue.ensures

pub returns-clause-contexts : goal.returns-clause-contexts
returns-clause-contexts g c =
    let i = c.self.inside in
    let row = c.spend-row in
    let new = c.replace-place in
    changed i.seed (context i.tree) i.table c.args.self.now c.args.at row.result (λ r rs. taken_out r rs ++ child_of r c.args.child.now c.args.birth c.args.input.now ∷ []) _ c.self.view_is row.ensures.row
    (rows_derived i.seed i.tree i.table c.self.invariant c.args.at row.result row.ensures.row row.new.table row.ensures.rest
    new.new.self new.result.0 c.args.birth c.args.input.now c.next-cdis.result new.ensures.free new.ensures.tree
    row.ensures.rising c.args.child.now c.row_at.result c.issue.new.self c.row_at.ensures c.issue.ensures)
