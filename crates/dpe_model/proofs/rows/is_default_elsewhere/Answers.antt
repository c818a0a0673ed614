use Rattle.std.proofs.Common.{not, ◌&&◌}
use Rattle.std.specs.Str.{bytes_eq}
use Rattle.dpe_model.specs.State.{Row}
use Rattle.dpe_model.specs.Verdict.{is_default_of}
use Rattle.dpe_model.proofs.PlainRows.{no_more, some_here}
use Rattle.dpe_model.proofs.rows.is_default_elsewhere.Goals as goal

pub returns-then-is_other_default : goal.returns-then-is_other_default
returns-then-is_other_default c =
    some_here (λ (other : Row). not (bytes_eq other.handle c.args.row.now.handle) && is_default_of c.args.locality other) c.args.rows.now c.loop-other.other-index c.other-item.result c.loop-other-test.true c.other-item.is c.loop-other.invariant (cc)

pub loop-other-preserved : goal.loop-other-preserved
loop-other-preserved c =
    no_more (λ (other : Row). not (bytes_eq other.handle c.args.row.now.handle) && is_default_of c.args.locality other) c.args.rows.now c.loop-other.other-index c.other-item.result c.loop-other-test.true c.other-item.is c.loop-other.invariant (cc)
