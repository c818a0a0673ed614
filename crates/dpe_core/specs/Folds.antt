-- The folds that a command counts.
use Rattle.std.specs.Prelude.{ℕ, List, Bool, false, ◌&&◌, is_none, if◌then◌else◌}
use Rattle.dpe_inputs.specs.Meters.{counted}
use Rattle.dpe_messages.specs.Class.{Class, class, refused, accepted}
use Rattle.dpe_messages.specs.Request.{Request}
use Rattle.dpe_model.specs.State.{State}
use Rattle.dpe_model.specs.Verdict.{derives, verdict}

-- the command is an accepted DeriveContext, which folds one input
abbrev pub folds : List ℕ → State → ℕ → Request → Bool
folds seed S locality request = derives request && is_none (verdict seed S locality request)

abbrev pub folds_of : List ℕ → State → ℕ → Class → Bool
folds_of seed S locality (accepted request) = folds seed S locality request
folds_of seed S locality (refused code) = false

-- the payload is one
abbrev pub folds_at : List ℕ → State → ℕ → List ℕ → Bool
folds_at seed S locality payload = folds_of seed S locality (class payload)

-- a count after a command that counts one fold, or none
abbrev pub metered : ℕ → Bool → ℕ
metered n folding = if folding then counted n else n
