-- The verdict on a command whose context is there, and bound to the caller's locality.
use Rattle.std.proofs.Common.{◌≡◌, ℕ, List, ap, ◌∙◌, Bool, true, false, cond, not, Option, Some}
use Rattle.std.proofs.lemmas.Bool.Decides.{Decides-eqb}
use Rattle.dpe_messages.specs.Request.{rotate}
use Rattle.dpe_model.specs.State.{Row, State}
use Rattle.dpe_model.specs.Verdict.{row_for, tests, first_code, verdict}
use Rattle.dpe_model.specs.Codes.{wrong_locality}
use Rattle.dpe_core.specs.Judging.{rotate_tests}

pub rotate_judged : (seed : List ℕ) (S : State) (locality : ℕ) (name : Option (List ℕ)) (default : Bool) (row : Row) → row_for S.rows locality name ≡ Some row → row.locality ≡ locality
    → verdict seed S locality (rotate name default) ≡ first_code (rotate_tests S default row)
rotate_judged seed S locality name default row is here = ap (λ r. first_code (tests seed S locality (rotate name default) r)) is ∙ by_default default
  where
    by_default : (default : Bool) → first_code (tests seed S locality (rotate name default) (Some row)) ≡ first_code (rotate_tests S default row)
    by_default true = ap (λ t. cond (not t) (Some wrong_locality) (first_code (rotate_tests S true row))) ((Decides-eqb row.locality locality).1 here)
    by_default false = ap (λ t. cond (not t) (Some wrong_locality) (first_code (rotate_tests S false row))) ((Decides-eqb row.locality locality).1 here)
