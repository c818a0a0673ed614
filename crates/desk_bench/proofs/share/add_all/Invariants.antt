use Rattle.std.proofs.Common.{◌≡◌}
use Rattle.dpe_desk.specs.Passes.{Belongs}
use Rattle.desk_bench.proofs.share.add_all.Given as goal

abbrev pub invariant-loop-number : goal.invariant-loop-number
invariant-loop-number g l = Belongs l.desk l.pass × (l.pass.view.stake ≡ l.initial.pass.view.stake)
