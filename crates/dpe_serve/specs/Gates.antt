-- What all workers did, each at a gate of its own, as one history tells it.
use Rattle.std.specs.Prelude.{ℕ, ◌<◌, ◌≤◌, ◌≡◌, ◌≢◌, ◌⊎◌, IsTrue, List, length, map, AllPairs, Contains, Option}
use Rattle.std.specs.Bool.{OnTrue, OnFalse}
use Rattle.std.specs.List.{AllByRecursion}
use Rattle.dpe_io.specs.Causes.{Rose}
use Rattle.dpe_io.specs.Told.{IfTold, Lists, NoneWaits}
use Rattle.dpe_model.specs.History.{Entry, entries_of_caller, entries_of_connection}
use Rattle.dpe_io.specs.Told.{Told}
use Rattle.dpe_io.specs.Tells.{Random, Entrance}
use Rattle.dpe_connections.specs.Drawn.{Draws}
use Rattle.dpe_connections.specs.Endings.{is_told_full, is_full, is_cut, is_entropy_fault}
use Rattle.dpe_connections.specs.Workers.{Visit, IsFrom, RoseBy, GoThrough, IsFaultless, AllServed, QuietOnceFull, ended}
use Rattle.dpe_connections.specs.declared.worker.Tally.{Tally}
use Rattle.dpe_serve.specs.declared.crew.Post.{Post}

-- What became of a post: the name of its worker, its locality, its door and its entropy before and after, and the tally.
pub record Gate (D E : Type 0) : Type 0 where
  pub name : ℕ
  pub locality : ℕ
  pub opened : D
  pub closed : D
  pub drawn_from : E
  pub drawn_to : E
  pub tally : Tally

-- These are the gates of the posts, as they were before and as they are after, in order.
pub record AreGates {D E C : Type 0} (before after : List (Post D E C)) (gates : List (Gate D E)) : Type 0 where
  pub localities : map (λ g. g.locality) gates ≡ map (λ p. p.locality) before
  pub opened : map (λ g. g.opened) gates ≡ map (λ p. p.door) before
  pub drawn_from : map (λ g. g.drawn_from) gates ≡ map (λ p. p.entropy) before
  pub kept : map (λ p. p.locality) after ≡ map (λ p. p.locality) before
  pub closed : map (λ g. g.closed) gates ≡ map (λ p. p.door) after
  pub drawn_to : map (λ g. g.drawn_to) gates ≡ map (λ p. p.entropy) after
  pub tallies : map (λ g. g.tally) gates ≡ map (λ p. p.tally) after

-- the names are different numbers below 65,536
pub record AreNames (names : List ℕ) : Type 0 where
  pub below : AllByRecursion (λ name. name < 65536) names
  pub differ : AllPairs (λ a b. a ≢ b) names

module _ {C : Type 0} (each : ℕ) (tally : Tally) (visits : List (Visit C)) where
  -- The door of a gate gave out the first connections that waited, in order, and got them back: `each` of them, or all
  -- if there are fewer, or those before the door failed.
  pub record ServesUpTo (before after : Entrance C) : Type 0 where
    pub through : IfTold (GoThrough visits) before.lists after.lists
    pub number : length visits ≡ tally.connections
    pub at_most : tally.connections ≤ each
    pub whole : tally.connections < each → IsTrue tally.door_failed ⊎ NoneWaits after.lists
    pub door_failed : OnTrue tally.door_failed (Rose before.faults after.faults)
    pub door_kept : OnFalse tally.door_failed (after.faults ≡ before.faults)
    pub out : after.out ≡ before.out

module _ {C : Type 0} (tell : C → Told) (capacity each : ℕ) (H : List Entry) (name locality : ℕ) where
  -- A gate in a history: the worker of this name served its connections, each by the entries that the history has of it.
  pub record ServedGate (tally : Tally) (before after : Entrance C) (drawn_from drawn_to : Random) : Type 0 where
    -- the endings in it are determined by what is seen of the connections (one_ending, in dpe_connections)
    pub visits : List (Visit C)
    pub up_to : ServesUpTo each tally visits before after
    pub faultless : AllByRecursion (IsFaultless tell) visits
    -- no entry of the worker but those of its connections
    pub only : AllByRecursion (IsFrom name locality tally.connections) (entries_of_caller H name)
    pub served : AllServed tell capacity locality (entries_of_connection H name) 0 visits
    -- A connection is told of a full journal only where the history is full; no later one has an entry.
    pub full : 0 < ended is_told_full visits → length H ≡ capacity
    pub quiet : QuietOnceFull (entries_of_connection H name) 0 visits
    -- The random bytes of the worker's entries are the words drawn, in order.
    pub drawn : Draws (entries_of_caller H name) (ended is_told_full visits) drawn_from.words drawn_to.words
    pub rose : RoseBy (ended is_entropy_fault visits) drawn_from.faults drawn_to.faults
    pub full_are : tally.full ≡ ended is_full visits
    pub cut_are : tally.cut ≡ ended is_cut visits

module _ {D E C : Type 0} (tell : C → Told) (entrance : D → Entrance C) (random : E → Random) where
  -- the worker of the gate served its connections
  abbrev pub IsServed : ℕ → ℕ → List Entry → Gate D E → Type 0
  IsServed capacity each H g =
      ServedGate tell capacity each H g.name g.locality g.tally (entrance g.opened) (entrance g.closed)
      (random g.drawn_from) (random g.drawn_to)

  -- What came through the gates is one history.
  pub record OneHistory (capacity each : ℕ) (H : List Entry) (gates : List (Gate D E)) : Type 0 where
    pub names : AreNames (map (λ g. g.name) gates)
    pub callers : AllByRecursion (λ e. Contains (map (λ g. g.name) gates) e.caller) H
    pub served : AllByRecursion (IsServed capacity each H) gates

  -- There are gates of these posts, and what came through them is one history.
  abbrev pub Serve : ℕ → ℕ → List Entry → List (Post D E C) → List (Post D E C) → Type 0
  Serve capacity each H before after =
      (gates : List (Gate D E)) × AreGates before after gates × OneHistory capacity each H gates
