-- What a worker does: the connections of one door, served one after the other.
use Rattle.std.specs.Prelude.{ℕ, ◌+◌, ◌-◌, ◌^◌, ◌<◌, ◌≤◌, ◌≡◌, ◌≢◌, min, Bool, true, List, [], ◌∷◌, ◌++◌, length, map}
use Rattle.std.specs.Prelude.{count_by, Option, None}
use Rattle.std.specs.List.{AllByRecursion}
use Rattle.dpe_io.specs.Told.{IfTold, Lists}
use Rattle.dpe_model.specs.History.{Entry}
use Rattle.dpe_io.specs.Told.{Told}
use Rattle.dpe_io.specs.Tells.{Random}
use Rattle.dpe_connections.specs.Drawn.{Draws}
use Rattle.dpe_connections.specs.Endings.{Ending, is_told_full, is_full, is_cut, is_entropy_fault}
use Rattle.dpe_connections.specs.Passes.{Seat, history_of, entries_on}
use Rattle.dpe_connections.specs.Served.{Served}
use Rattle.dpe_connections.specs.declared.worker.Tally.{Tally}

-- A connection's visit: as the door gave it out and as it was handed back, and how it ended.
pub record Visit (C : Type 0) : Type 0 where
  pub before : C
  pub after : C
  pub ending : Ending

-- the entry came from this caller, at this locality, over a connection below this number
pub record IsFrom (caller locality connections : ℕ) (e : Entry) : Type 0 where
  pub caller_is : e.caller ≡ caller
  pub locality_is : e.locality ≡ locality
  pub connection_below : e.connection < connections

-- the count rose by at least so many, or stands at the last value of a counter; by none it stayed
pub record RoseBy (many before now : ℕ) : Type 0 where
  pub least : min (before + many) (2 ^ 64 - 1) ≤ now
  pub kept : many ≡ 0 → now ≡ before

module _ {C : Type 0} where
  -- the door gave out these of its waiting connections, in order, and got them back
  abbrev pub GoThrough : List (Visit C) → Lists C → Lists C → Type 0
  GoThrough visits old new =
      (old.waiting ≡ map (λ v. v.before) visits ++ new.waiting) × (new.ended ≡ old.ended ++ map (λ v. v.after) visits)

  -- a connection had no fault when it was given out
  abbrev pub IsFaultless : (C → Told) → Visit C → Type 0
  IsFaultless tell v = ((tell v.before).read_faults ≡ 0) × ((tell v.before).write_faults ≡ 0)

  -- The connections from this number on were served by the entries of each number.
  abbrev pub AllServed : (C → Told) → ℕ → ℕ → (ℕ → List Entry) → ℕ → List (Visit C) → Type 0
  AllServed tell capacity locality entries number [] = Unit {0}
  AllServed tell capacity locality entries number (v ∷ vs) =
      Served capacity locality (entries number) (tell v.before) (tell v.after) v.ending
      × AllServed tell capacity locality entries (number + 1) vs

  -- behind a connection that was told of a full journal no later one has an entry
  abbrev pub QuietOnceFull : (ℕ → List Entry) → ℕ → List (Visit C) → Type 0
  QuietOnceFull entries number [] = Unit {0}
  QuietOnceFull entries number (v ∷ vs) =
      (is_told_full v.ending ≡ true → (later : ℕ) → number < later → entries later ≡ [])
      × QuietOnceFull entries (number + 1) vs

  -- how many visits ended so
  abbrev pub ended : (Ending → Bool) → List (Visit C) → ℕ
  ended test visits = count_by (λ v. test v.ending) visits

  module _ (tell : C → Told) (capacity locality : ℕ) (tally : Tally) where
    -- A door's connections were served by a pass, from its first call on, and the random bytes of their entries drawn.
    pub record ServesDoor (w : Seat) (old new : Option (Lists C)) (drawn_from drawn_to : Random) : Type 0 where
      pub visits : List (Visit C)
      pub through : IfTold (GoThrough visits) old new
      pub number : length visits ≡ tally.connections
      pub faultless : AllByRecursion (IsFaultless tell) visits
      pub served : AllServed tell capacity locality (entries_on w) 0 visits
      pub quiet : QuietOnceFull (entries_on w) 0 visits
      pub told : 0 < ended is_told_full visits → w.full ≢ None
      pub drawn : Draws (history_of w.made) (ended is_told_full visits) drawn_from.words drawn_to.words
      pub rose : RoseBy (ended is_entropy_fault visits) drawn_from.faults drawn_to.faults
      pub full_are : tally.full ≡ ended is_full visits
      pub cut_are : tally.cut ≡ ended is_cut visits
