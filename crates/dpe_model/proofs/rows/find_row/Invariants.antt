use Rattle.std.proofs.Common.{◌≡◌, take, find, None}
use Rattle.std.specs.Str.{bytes_eq}
use Rattle.dpe_model.specs.State.{Row}
use Rattle.dpe_model.specs.Plain.{rows_of}
use Rattle.dpe_model.proofs.rows.find_row.Given as goal

abbrev pub invariant-loop-row : goal.invariant-loop-row
invariant-loop-row l = find (λ (row : Row). bytes_eq row.handle l.handle) (rows_of (take l.row-index l.rows)) ≡ None
