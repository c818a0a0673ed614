use Rattle.std.proofs.Common.{◌≡◌, ◌≤◌, ◌+◌}
use Rattle.dpe_desk.specs.Passes.{Belongs}
use Rattle.shared_vault.proofs.share.put_all.Given as goal

abbrev pub invariant-loop-name : goal.invariant-loop-name
invariant-loop-name g l =
    Belongs l.desk l.pass × (l.pass.view.stake ≡ l.initial.pass.view.stake) × (l.count.put + l.count.refused ≤ l.name)
