use Rattle.std.proofs.Common.{length, sym, ◌∙◌}
use Rattle.dpe_vaults.proofs.Boxed.{found_stored, box_found, no_box}
use Rattle.dpe_vaults.proofs.vault.give_box.Goals as goal

pub sealed-requires : goal.sealed-requires
sealed-requires c =
    found_stored (length c.args.stored.now.entries) c.args.table.now c.args.name.now c.in-Some.at c.requires (sym c.in-Some.ensures)

pub returns-in-Some-clause-sealed : goal.returns-in-Some-clause-sealed
returns-in-Some-clause-sealed c =
    c.set.ensures ∙ c.sealed.ensures.sealed
    ∙ sym (box_found c.args.stored.now.entries c.args.table.now c.args.name.now c.in-Some.at (sym c.in-Some.ensures))

pub returns-in-None-clause-sealed : goal.returns-in-None-clause-sealed
returns-in-None-clause-sealed c =
    c.truncate.ensures ∙ sym (no_box c.args.stored.now.entries c.args.table.now c.args.name.now (sym c.in-None.ensures))
