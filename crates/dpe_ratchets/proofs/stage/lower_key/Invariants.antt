use Rattle.std.proofs.Common.{◌≡◌, ◌-◌, ℕ, List}
use Rattle.dpe_ratchets.specs.Keys.{ratchet_key}
use Rattle.dpe_ratchets.proofs.stage.lower_key.Given as goal

abbrev pub invariant-loop-step : goal.invariant-loop-step
invariant-loop-step l = (cdi : List ℕ) → l.initial.key ≡ ratchet_key cdi l.fn.from → l.key ≡ ratchet_key cdi (l.fn.from - l.step)
