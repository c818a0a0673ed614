use Rattle.std.proofs.Common.{◌≡◌, take}
use Rattle.dpe_model.specs.Step.{taken_out}
use Rattle.dpe_model.specs.Plain.{row_of, rows_of}
use Rattle.dpe_model.proofs.rows.taken_out.Given as goal

abbrev pub invariant-loop-other : goal.invariant-loop-other
invariant-loop-other l = rows_of l.left.items ≡ taken_out (row_of l.row) (rows_of (take l.other-index l.rows))
