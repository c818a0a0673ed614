use Rattle.std.proofs.Common.{◌≡◌, ◌≤◌, ◌*◌, take}
use Rattle.std.specs.Prelude.{sum_by}
use Rattle.dpe_serve.proofs.summary.add_up.Given as goal

-- the sums over the posts so far
abbrev pub invariant-loop-post : goal.invariant-loop-post
invariant-loop-post g l = record {
  connections : l.connections ≡ sum_by (λ p. p.tally.connections) (take l.post-index l.posts);
  full : l.full ≡ sum_by (λ p. p.tally.full) (take l.post-index l.posts);
  cut : l.cut ≡ sum_by (λ p. p.tally.cut) (take l.post-index l.posts);
  few_connections : l.connections ≤ l.post-index * 4294967295;
  few_full : l.full ≤ l.post-index * 4294967295;
  few_cut : l.cut ≤ l.post-index * 4294967295;
}
