use Rattle.dpe_model.specs.Verdict.{is_default_of}
use Rattle.dpe_model.proofs.PlainRows.{none_more, found_here}
use Rattle.dpe_model.proofs.rows.find_default.Goals as goal

pub returns-then-is_default_of : goal.returns-then-is_default_of
returns-then-is_default_of c =
    found_here (is_default_of c.args.locality) c.args.rows.now c.loop-row.row-index c.row-item.result c.loop-row-test.true c.row-item.is c.loop-row.invariant (cc)

pub loop-row-preserved : goal.loop-row-preserved
loop-row-preserved c =
    none_more (is_default_of c.args.locality) c.args.rows.now c.loop-row.row-index c.row-item.result c.loop-row-test.true c.row-item.is c.loop-row.invariant (cc)
