use Rattle.std.proofs.Common.{◌≡◌, ◌≤◌, vec_len}
use Rattle.std.specs.Prelude.{vec_capacity}
use Rattle.dpe_serve.proofs.serve.make_rooms.Given as goal

-- so many rooms were made, and there is room for all
abbrev pub invariant-loop : goal.invariant-loop
invariant-loop l = record {
  made : vec_len l.rooms ≡ l.counter;
  room : l.count ≤ vec_capacity l.rooms;
}
