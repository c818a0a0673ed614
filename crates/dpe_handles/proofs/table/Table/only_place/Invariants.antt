use Rattle.std.proofs.Common.{◌+◌, ◌-◌, ◌<◌, ◌≤◌, length}
use Rattle.dpe_handles.proofs.Searching.{Above, NotAbove, Halves}
use Rattle.dpe_handles.proofs.table.Table.only_place.Given as goal

abbrev pub invariant-loop-left : goal.invariant-loop-left
invariant-loop-left l = record {
  some : 0 < l.left;
  in_rows : l.at + l.left ≤ length l.self;
  floor : NotAbove l.self l.serial l.at;
  above : Above l.self l.serial (l.at + l.left);
  halves : Halves (length l.self - 1) l.initial.steps.taken l.steps.taken (l.left - 1);
}

abbrev pub decreases-loop-left : goal.decreases-loop-left
decreases-loop-left l = l.left - 1
