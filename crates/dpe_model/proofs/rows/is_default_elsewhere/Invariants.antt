use Rattle.std.proofs.Common.{◌≡◌, take, false, not, ◌&&◌}
use Rattle.std.specs.List.{list_any}
use Rattle.std.specs.Str.{bytes_eq}
use Rattle.dpe_model.specs.State.{Row}
use Rattle.dpe_model.specs.Verdict.{is_default_of}
use Rattle.dpe_model.specs.Plain.{rows_of}
use Rattle.dpe_model.proofs.rows.is_default_elsewhere.Given as goal

abbrev pub invariant-loop-other : goal.invariant-loop-other
invariant-loop-other l =
    list_any (λ (other : Row). not (bytes_eq other.handle l.row.handle) && is_default_of l.locality other) (rows_of (take l.other-index l.rows)) ≡ false
