use Rattle.std.proofs.Common.{◌≡◌, ◌≤◌, vec_capacity}
use Rattle.std.specs.List.{range_with_len}
use Rattle.dpe_handles.specs.Rows.{row_limit}
use Rattle.dpe_handles.proofs.table.all_slots.Given as goal

abbrev pub invariant-loop-slot : goal.invariant-loop-slot
invariant-loop-slot l = record {
  all : l.slots.items ≡ range_with_len 0 l.slot;
  room : row_limit ≤ vec_capacity l.slots;
}
