use Rattle.std.proofs.Common.{◌≡◌, ◌<◌, ◌++◌, ◌∷◌, [], true, sym, subst, ap, ◌∙◌, length, drop, take, arith, List, All}
use Rattle.std.proofs.lemmas.List.{take_at, length-map}
use Rattle.dpe_handles.specs.declared.row.Row.{Row}
use Rattle.dpe_handles.specs.Rows.{serial, rows_in, AreKept, HasNoDefault, with_default}
use Rattle.dpe_handles.proofs.Defaults.{kept_issued}
use Rattle.dpe_handles.proofs.Slots.{live_count, slot_within, rows_issued, serials_issued, table_issued}
use Rattle.dpe_handles.proofs.table.Table.issue.Goals as goal

pub index_mut-requires : goal.index_mut-requires
index_mut-requires c =
    let same = live_count c.self.inside.rows.items c.self.inside.order.items c.self.inside.live c.self.invariant.0 c.args.self.now c.self.view_is in
    let room = c.requires.room in
    let within = slot_within c.self.inside.rows.items c.self.inside.order.items c.self.inside.live c.self.invariant.0 c.self.inside.live c.index-slot.result.now (omega arith) c.index-slot.ensures in
    let all = ap length c.self.invariant.1 ∙ length-map c.self.inside.rows.items _ in
    omega arith

pub index_mut-requires-2 : goal.index_mut-requires-2
index_mut-requires-2 c =
    let same = live_count c.self.inside.rows.items c.self.inside.order.items c.self.inside.live c.self.invariant.0 c.args.self.now c.self.view_is in
    let room = c.requires.room in
    let within = slot_within c.self.inside.rows.items c.self.inside.order.items c.self.inside.live c.self.invariant.0 c.self.inside.live c.index-slot.result.now (omega arith) c.index-slot.ensures in
    omega arith

pub invariant_of-self : goal.invariant_of-self
invariant_of-self c =
    let t = c.self.invariant.0 in
    let few = t.few in
    let numbers = t.numbers in
    let same = live_count c.self.inside.rows.items c.self.inside.order.items c.self.inside.live c.self.invariant.0 c.args.self.now c.self.view_is in
    let room = c.requires.room in
    let slot = c.index-slot.result.now in
    let row = c.args.row in
    let within = slot_within c.self.inside.rows.items c.self.inside.order.items c.self.inside.live c.self.invariant.0 c.self.inside.live slot (omega arith) c.index-slot.ensures in
    let before = rows_in c.self.inside.rows.items (take c.self.inside.live c.self.inside.order.items) in
    let P : List Row → Type 0 = λ rows. All (λ (r : Row). serial r.handle < serial row.handle) rows in
    let Q : List Row → Type 0 = λ rows. row.default ≡ true → HasNoDefault rows row.locality in
    let after = drop (length c.keep_default.new.defaults) c.self.inside.defaults.items in
    let rows = rows_issued c.self.inside.rows.items c.self.inside.order.items c.self.inside.live slot row (omega arith) c.index-slot.ensures within t.differ in
    let kept = kept_issued before c.self.inside.defaults.items c.self.invariant.3 row c.serial_of-number.result c.serial_of-number.ensures (omega arith) (subst Q (sym c.self.view_is) c.requires.mark) in
    let written : take c.self.inside.defaults.len (c.keep_default.new.defaults ++ after) ≡ with_default c.self.inside.defaults.items row c.serial_of-number.result =
    take_at c.keep_default.new.defaults after c.self.inside.defaults.len (omega arith)
    ∙ (c.keep_default.ensures ∙ ap (λ ds. with_default ds row c.serial_of-number.result) c.deref_mut.ensures.value)
    in (
      table_issued c.self.inside.rows.items c.self.inside.order.items c.self.inside.live t slot row (omega arith) c.index-slot.ensures within (subst P (sym c.self.view_is) c.requires.last),
      serials_issued c.self.inside.rows.items c.self.inside.serials.items slot _ row c.serial_of-number.ensures c.self.invariant.1,
      c.self.invariant.2,
      subst (λ (rs : List Row). AreKept rs (take c.self.inside.defaults.len (c.keep_default.new.defaults ++ after))) (sym rows) (subst (AreKept (before ++ row ∷ [])) (sym written) kept),
    )

pub returns : goal.returns
returns c =
    let t = c.self.invariant.0 in
    let few = t.few in
    let numbers = t.numbers in
    let same = live_count c.self.inside.rows.items c.self.inside.order.items c.self.inside.live c.self.invariant.0 c.args.self.now c.self.view_is in
    let room = c.requires.room in
    let within = slot_within c.self.inside.rows.items c.self.inside.order.items c.self.inside.live c.self.invariant.0 c.self.inside.live c.index-slot.result.now (omega arith) c.index-slot.ensures in
    rows_issued c.self.inside.rows.items c.self.inside.order.items c.self.inside.live c.index-slot.result.now c.args.row (omega arith) c.index-slot.ensures within t.differ
    ∙ ap (λ rs. rs ++ c.args.row ∷ []) c.self.view_is
