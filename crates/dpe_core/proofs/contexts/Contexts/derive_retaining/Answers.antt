use Rattle.std.proofs.Common.{◌++◌, ◌∷◌, [], true, refl, ap}
use Rattle.dpe_handles.specs.declared.row.Row.{Row}
use Rattle.dpe_tree.specs.Tree.{context}
use Rattle.dpe_model.specs.Step.{taken_out, renamed}
use Rattle.dpe_core.specs.Contexts.{child_of}
use Rattle.dpe_core.proofs.Owned.{row_is_live}
use Rattle.dpe_core.proofs.Places.{is_live_place}
use Rattle.dpe_core.proofs.Exits.{changed, within_here, depth_here, unborn_here, last_of_child, last_of_parent, room_again, keeps_more, rows_with_child}
use Rattle.dpe_core.specs.Kept.{row_of}
use Rattle.dpe_core.proofs.Marks.{mark_of_child, mark_of_parent, mark_again, mark_anew, parent_differs, seen_here}
use Rattle.dpe_core.proofs.contexts.Contexts.derive_retaining.Goals as goal

pub cdis-requires : goal.cdis-requires
cdis-requires g c =
    let i = c.self.inside in
    within_here i.seed i.tree i.table c.args.self.now c.self.view_is c.args.at c.spend-row.result c.spend-row.ensures.row c.self.invariant.owned c.shape.ensures

pub add_child-place-requires-clause-parent : goal.add_child-place-requires-clause-parent
add_child-place-requires-clause-parent g c =
    let i = c.self.inside in
    is_live_place i.tree _ (row_is_live (context i.tree) i.table c.args.at c.spend-row.result c.self.invariant.owned c.spend-row.ensures.row)

pub add_child-place-requires-clause-depth : goal.add_child-place-requires-clause-depth
add_child-place-requires-clause-depth g c =
    let i = c.self.inside in
    depth_here i.seed i.tree i.table c.args.self.now c.self.view_is c.args.at c.spend-row.result c.spend-row.ensures.row c.self.invariant.owned c.requires.depth

pub add_child-place-requires-clause-birth : goal.add_child-place-requires-clause-birth
add_child-place-requires-clause-birth g c =
    let i = c.self.inside in
    unborn_here i.seed i.tree i.table c.args.self.now c.self.view_is c.args.at c.spend-row.result c.spend-row.ensures.row c.self.invariant.owned c.args.birth c.shape.ensures c.requires.unborn

pub issue-requires-clause-last : goal.issue-requires-clause-last
issue-requires-clause-last g c =
    let i = c.self.inside in
    last_of_child i.seed (context i.tree) i.table c.spend-row.new.table c.args.self.now c.args.at c.args.child.now c.row_at.result _ c.row_at.ensures c.self.view_is c.spend-row.ensures.rest c.requires.last

pub issue-requires-clause-mark : goal.issue-requires-clause-mark
issue-requires-clause-mark g c =
    let i = c.self.inside in
    let e = c.spend-row.ensures in
    mark_of_child c.spend-row.new.table c.args.child.now c.row_at.result _ c.row_at.ensures
    (mark_anew i.seed (context i.tree) i.table c.spend-row.new.table c.args.self.now c.args.at c.spend-row.result c.self.view_is e.rising e.row e.rest
    c.args.child.now.default true c.args.child.now.locality (c.requires.marks (row_of (context i.tree) c.spend-row.result) (seen_here i.seed (context i.tree) i.table c.spend-row.new.table c.args.self.now c.args.at c.spend-row.result c.self.view_is e.rising e.row e.rest)))

pub issue-requires-2-clause-room : goal.issue-requires-2-clause-room
issue-requires-2-clause-room g c =
    let i = c.self.inside in
    room_again i.seed (context i.tree) i.table c.spend-row.new.table c.issue.new.self c.args.self.now c.args.at _ c.self.view_is c.spend-row.ensures.rest c.issue.ensures c.requires.place c.requires.room

pub issue-requires-2-clause-last : goal.issue-requires-2-clause-last
issue-requires-2-clause-last g c =
    let i = c.self.inside in
    last_of_parent c.spend-row.new.table c.issue.new.self c.args.child.now c.row_at.result _ c.args.parent c.row_at.ensures c.issue.ensures c.requires.rising
    (last_of_child i.seed (context i.tree) i.table c.spend-row.new.table c.args.self.now c.args.at c.args.child.now c.row_at.result _ c.row_at.ensures c.self.view_is c.spend-row.ensures.rest c.requires.last)

pub issue-requires-2-clause-mark : goal.issue-requires-2-clause-mark
issue-requires-2-clause-mark g c =
    let i = c.self.inside in
    let e = c.spend-row.ensures in
    mark_of_parent c.spend-row.new.table c.issue.new.self c.args.child.now c.row_at.result c.spend-row.result _ c.row_at.ensures c.issue.ensures
    (mark_again i.table c.spend-row.new.table c.args.at c.spend-row.result e.marks e.row e.rest)
    (λ d. parent_differs i.seed (context i.tree) i.table c.spend-row.new.table c.args.self.now c.args.at c.spend-row.result c.self.view_is e.rising e.row e.rest
    c.args.child.now.default true c.args.child.now.locality (c.requires.marks (row_of (context i.tree) c.spend-row.result) (seen_here i.seed (context i.tree) i.table c.spend-row.new.table c.args.self.now c.args.at c.spend-row.result c.self.view_is e.rising e.row e.rest)) d refl)

pub invariant_of-self : goal.invariant_of-self
invariant_of-self g c =
    let i = c.self.inside in
    let row = c.spend-row in
    let new = c.add_child-place in
    keeps_more i.seed i.tree i.table c.self.invariant c.args.at row.result row.ensures.row row.new.table row.ensures.rest
    new.new.self new.result.0 c.args.birth c.args.input.now c.next-cdis.result new.ensures.free new.ensures.tree
    c.row_at.result _ c.issue.new.self c.issue-2.new.self c.issue.ensures c.issue-2.ensures
    _ c.cdis.ensures c.next-cdis.ensures.attest c.next-cdis.ensures.seal new.ensures.live (ap (λ (r : Row). r.place) c.row_at.ensures) refl

pub returns-clause-contexts : goal.returns-clause-contexts
returns-clause-contexts g c =
    let i = c.self.inside in
    let row = c.spend-row in
    let new = c.add_child-place in
    changed i.seed (context i.tree) i.table c.args.self.now c.args.at row.result (λ r rs. taken_out r rs ++ child_of r c.args.child.now c.args.birth c.args.input.now ∷ renamed r c.args.parent ∷ []) _ c.self.view_is row.ensures.row
    (rows_with_child i.seed i.tree i.table c.self.invariant c.args.at row.result row.ensures.row row.new.table row.ensures.rest
    new.new.self new.result.0 c.args.birth c.args.input.now c.next-cdis.result new.ensures.free new.ensures.tree
    c.row_at.result _ c.issue.new.self c.issue-2.new.self c.issue.ensures c.issue-2.ensures
    row.ensures.rising c.args.child.now c.args.parent c.row_at.ensures refl)
