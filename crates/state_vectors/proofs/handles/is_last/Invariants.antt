use Rattle.std.proofs.Common.{ℕ, ◌<◌, slice_index_or}
use Rattle.dpe_handles.specs.declared.row.Row.{Row}
use Rattle.dpe_handles.specs.Rows.{serial}
use Rattle.state_vectors.proofs.handles.is_last.Given as goal

abbrev pub invariant-loop-at : goal.invariant-loop-at
invariant-loop-at l = (k : ℕ) (d : Row) → k < l.at → serial (slice_index_or l.table k d).handle < serial l.row.handle
