use Rattle.std.specs.Str.{bytes_eq}
use Rattle.dpe_model.specs.State.{Row}
use Rattle.dpe_model.proofs.PlainRows.{none_more, found_here}
use Rattle.dpe_model.proofs.rows.find_row.Goals as goal

pub returns-then-has_handle : goal.returns-then-has_handle
returns-then-has_handle c =
    found_here (λ (row : Row). bytes_eq row.handle c.args.handle.now) c.args.rows.now c.loop-row.row-index c.row-item.result c.loop-row-test.true c.row-item.is c.loop-row.invariant (cc)

pub loop-row-preserved : goal.loop-row-preserved
loop-row-preserved c =
    none_more (λ (row : Row). bytes_eq row.handle c.args.handle.now) c.args.rows.now c.loop-row.row-index c.row-item.result c.loop-row-test.true c.row-item.is c.loop-row.invariant (cc)
