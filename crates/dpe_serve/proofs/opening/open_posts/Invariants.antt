use Rattle.std.proofs.Common.{◌≡◌, ◌≤◌, ◌+◌, length, take, map, vec_len}
use Rattle.std.specs.Prelude.{vec_capacity}
use Rattle.std.specs.List.{AllByRecursion}
use Rattle.dpe_io.specs.Tells.{entrance}
use Rattle.dpe_serve.specs.Openings.{OpensPosts, IsNewPost, locality_of}
use Rattle.dpe_serve.proofs.Posting.{localities_of}
use Rattle.dpe_serve.proofs.opening.open_posts.Given as goal

-- a door and an entropy were opened for each word so far
abbrev pub invariant-loop-word : goal.invariant-loop-word
invariant-loop-word g l = record {
  opens : OpensPosts (g.H.House.doors l.initial.house) (g.H.House.entropies l.initial.house) l.posts.items (g.H.House.doors l.house) (g.H.House.entropies l.house);
  fresh : AllByRecursion (IsNewPost (entrance g.H.Door.Door) g.H.Entropy.Entropy.faults) l.posts.items;
  localities : map locality_of l.posts.items ≡ localities_of (take l.word-index l.words);
  number : vec_len l.posts ≡ l.word-index;
  rooms : length l.words ≤ vec_len l.rooms + l.word-index;
  capacity : vec_capacity l.posts ≡ vec_capacity l.initial.posts;
  seeds : g.H.House.seeds l.house ≡ g.H.House.seeds l.initial.house;
  journals : g.H.House.journals l.house ≡ g.H.House.journals l.initial.house;
}
