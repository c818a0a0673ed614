use Rattle.std.proofs.Common.{rules, ◌≡◌, ◌-◌, ◌++◌, ◌∷◌, [], ap, sym, subst, ◌∙◌, length, take, remove, arith, List}
use Rattle.dpe_handles.specs.declared.row.Row.{Row}
use Rattle.dpe_handles.specs.Rows.{rows_in, AreKept}
use Rattle.dpe_handles.proofs.Defaults.{kept_spent}
use Rattle.dpe_handles.proofs.Slots.{live_count, place_within, row_there, rows_spent, table_spent}
use Rattle.dpe_handles.proofs.table.Table.spend.Goals as goal

pub index-requires : goal.index-requires
index-requires c = let within = place_within c.self.inside.rows.items c.self.inside.order.items c.self.inside.live c.self.invariant.0 c.args.self.now c.self.view_is c.args.at c.remove-slot.result c.requires c.remove-slot.ensures.value in omega arith

pub returns-clause-row : goal.returns-clause-row
returns-clause-row c = row_there c.self.inside.rows.items c.self.inside.order.items c.self.inside.live c.self.invariant.0 c.args.self.now c.self.view_is c.args.at c.remove-slot.result c.requires c.remove-slot.ensures.value c.index.result.now c.index.ensures

pub returns-clause-rest : goal.returns-clause-rest
returns-clause-rest c =
    let t = c.self.invariant.0 in
    let few = t.few in
    let numbers = t.numbers in
    let many = live_count c.self.inside.rows.items c.self.inside.order.items c.self.inside.live c.self.invariant.0 c.args.self.now c.self.view_is in
    let lt = c.requires in
    let moved : c.push.new.self.items ≡ remove c.self.inside.order.items c.args.at ++ c.remove-slot.result ∷ [] = search rules in
    ap (λ o. rows_in c.self.inside.rows.items (take (c.self.inside.live - 1) o)) moved
    ∙ rows_spent c.self.inside.rows.items c.self.inside.order.items c.self.inside.live (c.self.inside.live - 1) c.args.at c.remove-slot.result (omega arith) (omega arith) (omega arith)
    ∙ ap (λ rs. remove rs c.args.at) c.self.view_is

pub invariant_of-self : goal.invariant_of-self
invariant_of-self c =
    let t = c.self.invariant.0 in
    let few = t.few in
    let numbers = t.numbers in
    let many = live_count c.self.inside.rows.items c.self.inside.order.items c.self.inside.live c.self.invariant.0 c.args.self.now c.self.view_is in
    let lt = c.requires in
    let moved : c.push.new.self.items ≡ remove c.self.inside.order.items c.args.at ++ c.remove-slot.result ∷ [] = search rules in
    let room = c.self.invariant.2 in
    let kept = c.remove-slot.ensures.capacity in
    let kept_too = c.push.ensures.capacity in
    let rows = ap (λ o. rows_in c.self.inside.rows.items (take (c.self.inside.live - 1) o)) moved
    ∙ rows_spent c.self.inside.rows.items c.self.inside.order.items c.self.inside.live (c.self.inside.live - 1) c.args.at c.remove-slot.result (omega arith) (omega arith) (omega arith)
    in
    let P : List Row → Type 0 = λ rs. AreKept rs c.self.inside.defaults.items in
    let before = rows_in c.self.inside.rows.items (take c.self.inside.live c.self.inside.order.items) in
    let within = ap length c.self.view_is in
    (table_spent c.self.inside.rows.items c.self.inside.order.items c.self.inside.live t _ _ c.args.at c.remove-slot.result (omega arith) (omega arith) c.remove-slot.ensures.value moved, c.self.invariant.1, omega arith, subst P (sym rows) (kept_spent before c.self.inside.defaults.items c.self.invariant.3 c.args.at (omega arith)))
