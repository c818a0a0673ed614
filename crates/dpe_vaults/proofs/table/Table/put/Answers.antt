use Rattle.std.proofs.Common.{ℕ, Bool, cond, List, length, ap, sym, subst, ◌∙◌}
use Rattle.dpe_vaults.specs.Named.{Named, named, placed, has_place, AreOrdered}
use Rattle.dpe_vaults.specs.Tables.{row_of}
use Rattle.dpe_vaults.proofs.Names.{put_ordered}
use Rattle.dpe_vaults.proofs.Placing.{stands_place, set_rows, inserted_rows, full_rows, is_full, is_open, refilled}
use Rattle.dpe_vaults.proofs.table.Table.put.Goals as goal

pub invariant_of-self : goal.invariant_of-self
invariant_of-self c =
    subst (λ (rs : List (Named ℕ)). AreOrdered rs) (sym (set_rows c.self.inside.rows.items c.args.self.now c.args.name.now c.in-Ok.place c.self.view_is _ c.row_for-row.result c.args.at
    (refilled c.self.inside.rows.items c.deref_mut.result.now c.in-Ok.place c.row_for-row.result c.deref_mut.ensures.value)
    (ap row_of c.row_for-row.ensures) c.in-Ok.ensures))
    (put_ordered (has_place c.args.self.now c.args.name.now) c.args.self.now (named c.args.name.now c.args.at)
    (subst (λ (rs : List (Named ℕ)). AreOrdered rs) c.self.view_is c.self.invariant))

pub returns-in-Ok-clause-place : goal.returns-in-Ok-clause-place
returns-in-Ok-clause-place c = sym (stands_place c.args.self.now c.args.name.now c.in-Ok.place c.in-Ok.ensures)

pub returns-in-Ok-clause-rows : goal.returns-in-Ok-clause-rows
returns-in-Ok-clause-rows c = set_rows c.self.inside.rows.items c.args.self.now c.args.name.now c.in-Ok.place c.self.view_is _ c.row_for-row.result c.args.at
    (refilled c.self.inside.rows.items c.deref_mut.result.now c.in-Ok.place c.row_for-row.result c.deref_mut.ensures.value)
    (ap row_of c.row_for-row.ensures) c.in-Ok.ensures

pub returns-then-is_full-clause-place : goal.returns-then-is_full-clause-place
returns-then-is_full-clause-place c =
    sym (full_rows c.self.inside.rows.items c.args.self.now c.args.name.now c.in-Err.place c.self.view_is c.in-Err.ensures
    (is_full (length c.self.inside.rows.items) (sym c.is_full.ensures.value ∙ c.if-is_full.true)))

pub returns-then-is_full-clause-rows : goal.returns-then-is_full-clause-rows
returns-then-is_full-clause-rows c =
    sym (ap (λ (t : Bool). cond t (placed c.args.self.now (named c.args.name.now c.args.at)) c.args.self.now)
    (full_rows c.self.inside.rows.items c.args.self.now c.args.name.now c.in-Err.place c.self.view_is c.in-Err.ensures
    (is_full (length c.self.inside.rows.items) (sym c.is_full.ensures.value ∙ c.if-is_full.true))))

pub invariant_of-self-in-Err : goal.invariant_of-self-in-Err
invariant_of-self-in-Err c =
    subst (λ (rs : List (Named ℕ)). AreOrdered rs) (sym (inserted_rows c.self.inside.rows.items c.args.self.now c.args.name.now c.in-Err.place c.self.view_is c.insert.new.self.items c.row_for-row.result c.args.at
    c.insert.ensures.items (ap row_of c.row_for-row.ensures) c.in-Err.ensures
    (is_open (length c.self.inside.rows.items) c.is_full.ensures.fits (sym c.is_full.ensures.value ∙ c.if-is_full.false))))
    (put_ordered (has_place c.args.self.now c.args.name.now) c.args.self.now (named c.args.name.now c.args.at)
    (subst (λ (rs : List (Named ℕ)). AreOrdered rs) c.self.view_is c.self.invariant))

pub returns-else-is_full-clause-rows : goal.returns-else-is_full-clause-rows
returns-else-is_full-clause-rows c = inserted_rows c.self.inside.rows.items c.args.self.now c.args.name.now c.in-Err.place c.self.view_is c.insert.new.self.items c.row_for-row.result c.args.at
    c.insert.ensures.items (ap row_of c.row_for-row.ensures) c.in-Err.ensures
    (is_open (length c.self.inside.rows.items) c.is_full.ensures.fits (sym c.is_full.ensures.value ∙ c.if-is_full.false))
