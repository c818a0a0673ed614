use Rattle.std.proofs.Common.{◌≡◌, take}
use Rattle.dpe_model.specs.Plain.{rows_of}
use Rattle.dpe_model.proofs.rows.copied.Given as goal

abbrev pub invariant-loop-row : goal.invariant-loop-row
invariant-loop-row l = rows_of l.copy.items ≡ rows_of (take l.row-index l.rows)
