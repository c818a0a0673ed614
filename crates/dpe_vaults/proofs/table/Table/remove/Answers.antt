use Rattle.std.proofs.Common.{ℕ, List, Option, is_some, ap, sym, subst}
use Rattle.dpe_vaults.specs.Named.{Named, AreOrdered}
use Rattle.dpe_vaults.proofs.Names.{without_ordered}
use Rattle.dpe_vaults.proofs.Placing.{removed_rows, stands_found, belongs_found, belongs_kept}
use Rattle.dpe_vaults.proofs.table.Table.remove.Goals as goal

pub invariant_of-self : goal.invariant_of-self
invariant_of-self c =
    subst (λ (rs : List (Named ℕ)). AreOrdered rs)
    (sym (removed_rows c.self.inside.rows.items c.args.self.now c.args.name.now c.in-Ok.place c.self.view_is c.remove.new.self.items c.remove.ensures.items c.in-Ok.ensures))
    (without_ordered c.args.self.now c.args.name.now (subst (λ (rs : List (Named ℕ)). AreOrdered rs) c.self.view_is c.self.invariant))

pub returns-in-Ok-clause-found : goal.returns-in-Ok-clause-found
returns-in-Ok-clause-found c =
    sym (ap (λ (o : Option ℕ). is_some o) (stands_found c.args.self.now c.args.name.now c.in-Ok.place c.in-Ok.ensures))

pub returns-in-Ok-clause-rows : goal.returns-in-Ok-clause-rows
returns-in-Ok-clause-rows c =
    removed_rows c.self.inside.rows.items c.args.self.now c.args.name.now c.in-Ok.place c.self.view_is c.remove.new.self.items c.remove.ensures.items c.in-Ok.ensures

pub returns-in-Err-clause-found : goal.returns-in-Err-clause-found
returns-in-Err-clause-found c =
    sym (ap (λ (o : Option ℕ). is_some o) (belongs_found c.args.self.now c.args.name.now c.in-Err.field-0 c.in-Err.ensures))

pub returns-in-Err-clause-rows : goal.returns-in-Err-clause-rows
returns-in-Err-clause-rows c = belongs_kept c.args.self.now c.args.name.now c.in-Err.field-0 c.in-Err.ensures
