use Rattle.std.proofs.Common.{◌≤◌, ◌+◌, vec_len}
use Rattle.std.specs.Prelude.{vec_capacity}
use Rattle.std.specs.List.{AllByRecursion}
use Rattle.dpe_desk.specs.Passes.{Belongs}
use Rattle.dpe_serve.specs.Crews.{IsDone}
use Rattle.dpe_serve.proofs.Gathering.{Gathering}
use Rattle.dpe_serve.proofs.crew.dismiss_all.Given as goal

-- the passes of the workers so far were joined
abbrev pub invariant-loop-workers : goal.invariant-loop-workers
invariant-loop-workers g l = record {
  gathering : Gathering l.initial.workers.items l.workers.items l.posts.items l.fn.pass.view l.pass.view;
  done : AllByRecursion (IsDone l.desk) l.workers.items;
  belongs : Belongs l.desk l.pass;
  room : vec_len l.workers + vec_len l.posts ≤ vec_capacity l.posts;
}

abbrev pub decreases-loop-workers : goal.decreases-loop-workers
decreases-loop-workers g l = vec_len l.workers
