use Rattle.std.proofs.Common.{rules, ◌≡◌, ◌++◌, ◌∷◌, [], sym, ap, ◌∙◌, arith}
use Rattle.std.specs.List.{range_with_len}
use Rattle.dpe_handles.specs.Rows.{row_limit}
use Rattle.dpe_handles.proofs.Slots.{numbers_more}
use Rattle.dpe_handles.proofs.table.all_slots.Goals as goal

pub loop-slot-init : goal.loop-slot-init
loop-slot-init c = let capacity_is = c.in_ok-slots.ensures.capacity in record { all = c.in_ok-slots.ensures.items; room = omega arith }

pub loop-slot-preserved : goal.loop-slot-preserved
loop-slot-preserved c =
    let i = c.loop-slot.invariant in
    let e : c.push.new.self.items ≡ c.loop-slot.slots.items ++ c.loop-slot.slot ∷ [] = search rules in
    let before = i.room in
    let capacity_is = c.in_ok-push.ensures.capacity in
    record { all = e ∙ ap (λ ns. ns ++ c.loop-slot.slot ∷ []) i.all ∙ sym (numbers_more c.loop-slot.slot); room = omega arith }

pub returns-clause-all : goal.returns-clause-all
returns-clause-all c =
    let done : c.loop-slot.slot ≡ row_limit = omega arith in
    c.loop-slot.invariant.all ∙ ap (range_with_len 0) done
