use Rattle.std.proofs.Common.{◌≡◌, vec_len}
use Rattle.desk_bench.proofs.sum.blanks.Given as goal

abbrev pub invariant-loop-at : goal.invariant-loop-at
invariant-loop-at l = vec_len l.rows ≡ l._at
