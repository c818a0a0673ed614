use Rattle.std.proofs.Common.{◌≡◌, ℕ, ◌+◌, ◌-◌, ◌/◌, ◌<◌, List, Less, Equal, Greater, Ordering, length, get_or, refl, ap, sym, subst, ◌∙◌, arith}
use Rattle.dpe_vaults.specs.declared.table.Row.{Row}
use Rattle.dpe_vaults.specs.Named.{Named, name_order, AreOrdered}
use Rattle.dpe_vaults.specs.Tables.{rows_of, StandsAt, BelongsAt}
use Rattle.dpe_vaults.proofs.Names.{same_if_equal}
use Rattle.dpe_vaults.proofs.Placing.{seek_found, seek_less, seek_greater, seek_none, after_end}
use Rattle.dpe_vaults.proofs.table.Table.seek.Goals as goal

pub halves-init : goal.halves-init
halves-init c =
    (tt, after_end c.as_slice-rows.result.now c.args.name.now (length c.as_slice-rows.result.now) refl, omega arith, omega arith)

pub returns-in-Equal : goal.returns-in-Equal
returns-in-Equal c =
    let rows = c.as_slice-rows.result.now in
    let row = c.index-rows-middle.result in
    let middle : ℕ = c.halves.low + (c.halves.high - c.halves.low) / 2 in
    let there : middle < length rows = omega (arith, c.halves-test.true, c.halves.invariant.3) in
    let ordered : AreOrdered (rows_of rows) = subst (λ (rs : List Row). AreOrdered (rows_of rs)) (sym c.as_slice-rows.ensures.value) c.self.invariant in
    let order : name_order (get_or rows middle row).name c.args.name.now ≡ Equal =
    ap (λ (r : Row). name_order r.name c.args.name.now) (sym c.index-rows-middle.is) ∙ sym c.order_of.ensures ∙ c.in-Equal.is in
    subst (λ (rs : List (Named ℕ)). StandsAt rs c.args.name.now middle) (ap rows_of c.as_slice-rows.ensures.value ∙ c.self.view_is)
    (seek_found rows c.args.name.now middle row there ordered (same_if_equal (get_or rows middle row).name c.args.name.now order))

pub returns : goal.returns
returns c =
    subst (λ (rs : List (Named ℕ)). BelongsAt rs c.args.name.now c.halves.low) (ap rows_of c.as_slice-rows.ensures.value ∙ c.self.view_is)
    (seek_none c.as_slice-rows.result.now c.args.name.now c.halves.low c.halves.high (omega (arith, c.halves.invariant.2, c.halves.invariant.3))
    (omega (arith, c.halves.invariant.2, c.halves-test.false)) c.halves.invariant.0 c.halves.invariant.1)

pub halves-preserved : goal.halves-preserved
halves-preserved c =
    let rows = c.as_slice-rows.result.now in
    let row = c.index-rows-middle.result in
    let middle : ℕ = c.halves.low + (c.halves.high - c.halves.low) / 2 in
    let there : middle < length rows = omega (arith, c.halves-test.true, c.halves.invariant.3) in
    let ordered : AreOrdered (rows_of rows) = subst (λ (rs : List Row). AreOrdered (rows_of rs)) (sym c.as_slice-rows.ensures.value) c.self.invariant in
    let order : name_order (get_or rows middle row).name c.args.name.now ≡ Greater =
    ap (λ (r : Row). name_order r.name c.args.name.now) (sym c.index-rows-middle.is) ∙ sym c.order_of.ensures ∙ c.in-Greater.is in
    (c.halves.invariant.0, seek_greater rows c.args.name.now middle row there ordered order, omega arith, omega arith)

pub halves-preserved-in-Less : goal.halves-preserved-in-Less
halves-preserved-in-Less c =
    let rows = c.as_slice-rows.result.now in
    let row = c.index-rows-middle.result in
    let middle : ℕ = c.halves.low + (c.halves.high - c.halves.low) / 2 in
    let there : middle < length rows = omega (arith, c.halves-test.true, c.halves.invariant.3) in
    let ordered : AreOrdered (rows_of rows) = subst (λ (rs : List Row). AreOrdered (rows_of rs)) (sym c.as_slice-rows.ensures.value) c.self.invariant in
    let order : name_order (get_or rows middle row).name c.args.name.now ≡ Less =
    ap (λ (r : Row). name_order r.name c.args.name.now) (sym c.index-rows-middle.is) ∙ sym c.order_of.ensures ∙ c.in-Less.is in
    (seek_less rows c.args.name.now middle row there ordered order, c.halves.invariant.1, omega (arith, c.halves-test.true), omega arith)
