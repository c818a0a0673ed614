use Rattle.std.proofs.Common.{ap, sym, ◌∙◌}
use Rattle.dpe_vaults.specs.Tables.{rows_of}
use Rattle.dpe_vaults.proofs.Placing.{found_at, belongs_found}
use Rattle.dpe_vaults.proofs.table.Table.find.Goals as goal

pub returns-in-Ok : goal.returns-in-Ok
returns-in-Ok c =
    found_at c.as_slice.result.now c.args.self.now c.args.name.now c.in-Ok.place (ap rows_of c.as_slice.ensures.value ∙ c.self.view_is)
    c.index-as_slice-place.result c.in-Ok.ensures

pub returns-in-Err : goal.returns-in-Err
returns-in-Err c = sym (belongs_found c.args.self.now c.args.name.now c.in-Err.field-0 c.in-Err.ensures)
