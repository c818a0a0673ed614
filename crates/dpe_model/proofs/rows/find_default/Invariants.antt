use Rattle.std.proofs.Common.{◌≡◌, take, find, None}
use Rattle.dpe_model.specs.Verdict.{is_default_of}
use Rattle.dpe_model.specs.Plain.{rows_of}
use Rattle.dpe_model.proofs.rows.find_default.Given as goal

abbrev pub invariant-loop-row : goal.invariant-loop-row
invariant-loop-row l = find (is_default_of l.locality) (rows_of (take l.row-index l.rows)) ≡ None
