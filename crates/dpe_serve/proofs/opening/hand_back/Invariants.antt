use Rattle.std.proofs.Common.{◌≡◌, ◌≤◌, ◌+◌, vec_len}
use Rattle.dpe_serve.proofs.Posting.{HandsBack}
use Rattle.dpe_serve.proofs.opening.hand_back.Given as goal

-- the first posts were handed back
abbrev pub invariant-loop-posts : goal.invariant-loop-posts
invariant-loop-posts g l = record {
  back : HandsBack g.H.Door.Door.faults g.H.Entropy.Entropy.faults l.initial.posts.items l.posts.items (g.H.House.doors l.initial.house) (g.H.House.doors l.house) (g.H.House.entropies l.initial.house) (g.H.House.entropies l.house) l.place;
  few : vec_len l.posts + l.place ≤ 65536;
  doors : vec_len l.posts ≤ (g.H.House.doors l.house).out;
  entropies : vec_len l.posts ≤ (g.H.House.entropies l.house).out;
  seeds : g.H.House.seeds l.house ≡ g.H.House.seeds l.initial.house;
  journals : g.H.House.journals l.house ≡ g.H.House.journals l.initial.house;
}

abbrev pub decreases-loop-posts : goal.decreases-loop-posts
decreases-loop-posts g l = vec_len l.posts
