use Rattle.std.proofs.Common.{◌≡◌, ◌∙◌, length, replicate, ap, sym, rules}
use Rattle.dpe_handles.specs.Rows.{row_limit, no_row, serials_of}
use Rattle.dpe_handles.proofs.Defaults.{kept_made}
use Rattle.dpe_handles.proofs.Slots.{table_made, serials_made}
use Rattle.dpe_handles.proofs.table.Table.make.Goals as goal

pub invariant_of-result : goal.invariant_of-result
invariant_of-result c =
    let many : length c.in_ok-rows.rows.items ≡ row_limit = search rules in
    let blank : c.in_ok-rows.rows.items ≡ replicate row_limit no_row = c.in_ok-rows.ensures.items_if_clones_equal (λ y h. search rules) in
    let zeros : c.in_ok-serials.serials.items ≡ replicate row_limit 0 = c.in_ok-serials.ensures.items_if_clones_equal (λ y h. search rules) in
    (table_made c.in_ok-rows.rows.items c.in_ok-order.order.items many c.in_ok-order.ensures.all, zeros ∙ serials_made row_limit ∙ ap serials_of (sym blank), c.in_ok-order.ensures.room, kept_made c.in_ok-defaults.defaults.items (search rules))
