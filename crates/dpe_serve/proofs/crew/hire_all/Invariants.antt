use Rattle.std.proofs.Common.{◌≡◌, ◌≤◌, ◌+◌, vec_len}
use Rattle.std.specs.Prelude.{vec_capacity}
use Rattle.std.specs.List.{AllByRecursion}
use Rattle.dpe_desk.specs.Passes.{Belongs}
use Rattle.dpe_desk.specs.Views.{held}
use Rattle.dpe_serve.specs.Crews.{IsNear}
use Rattle.dpe_serve.proofs.Hiring.{Hiring}
use Rattle.dpe_serve.proofs.crew.hire_all.Given as goal

-- the posts so far have their workers
abbrev pub invariant-loop-posts : goal.invariant-loop-posts
invariant-loop-posts g l = record {
  hiring : Hiring l.desk l.each l.initial.posts.items l.posts.items l.workers.items l.initial.pass.view l.pass.view;
  near : AllByRecursion IsNear l.posts.items;
  belongs : Belongs l.desk l.pass;
  same_desk : l.pass.desk ≡ l.initial.pass.desk;
  stake : vec_len l.posts + held l.pass.view ≤ l.pass.view.stake;
  room : vec_len l.posts + vec_len l.workers ≤ vec_capacity l.workers;
  kept : vec_capacity l.posts ≡ vec_capacity l.initial.posts;
}

abbrev pub decreases-loop-posts : goal.decreases-loop-posts
decreases-loop-posts g l = vec_len l.posts
