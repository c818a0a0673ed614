-- How a crew is hired, works and is dismissed.
use Rattle.std.specs.Prelude.{ℕ, ◌+◌, ◌<◌, ◌≤◌, ◌≡◌, ◌≢◌, ◌⊎◌, IsTrue, false, List, [], ◌∷◌, ◌++◌, length, map, None}
use Rattle.std.specs.Bool.{OnTrue, OnFalse}
use Rattle.std.specs.List.{AllByRecursion}
use Rattle.dpe_io.specs.Causes.{Rose}
use Rattle.dpe_io.specs.Told.{NoneWaits}
use Rattle.dpe_desk.specs.Entries.{made_by, times}
use Rattle.dpe_desk.specs.Passes.{DeskView, Belongs, own_name}
use Rattle.dpe_desk.specs.Plays.{either_of}
use Rattle.dpe_desk.specs.Views.{Sound}
use Rattle.dpe_journal.specs.BookViews.{BookView}
use Rattle.dpe_journal.specs.Entries.{Sent}
use Rattle.dpe_journal.specs.Shared.{IsLegalFor}
use Rattle.dpe_io.specs.Told.{Told}
use Rattle.dpe_io.specs.Tells.{Random}
use Rattle.dpe_io.specs.Tells.{Entrance}
use Rattle.dpe_connections.specs.Passes.{Seat, history_of}
use Rattle.dpe_connections.specs.Workers.{IsFrom, ServesDoor}
use Rattle.dpe_connections.specs.declared.worker.Tally.{Tally}
use Rattle.dpe_connections.specs.declared.worker.Worker.{Worker}
use Rattle.dpe_serve.specs.declared.crew.Post.{Post}

abbrev pub BookDesk : Type 0
BookDesk = DeskView BookView Sent (List ℕ)

abbrev pub no_tally : Tally
no_tally = record { connections = 0; full = 0; cut = 0; door_failed = false }

-- the post's locality is one of the eight
abbrev pub IsNear : {D E C : Type 0} → Post D E C → Type 0
IsNear p = p.locality ≤ 7

-- the worker has a pass of the desk with one name, and has served nothing yet
pub record IsReady {D E C : Type 0} (desk : BookDesk) (w : Worker D E C) : Type 0 where
  pub belongs : Belongs desk w.pass
  pub near : w.locality ≤ 7
  pub first : w.pass.view.made ≡ []
  pub untold : w.tally ≡ no_tally
  pub named : w.pass.view.names ≡ own_name w.pass.view ∷ []
  pub stake : w.pass.view.stake ≡ 1

-- the worker was hired for this post, to serve so many connections at most
pub record IsHired {D E C : Type 0} (desk : BookDesk) (each : ℕ) (p : Post D E C) (w : Worker D E C) : Type 0 where
  pub ready : IsReady desk w
  pub locality : w.locality ≡ p.locality
  pub each_is : w.each ≡ each
  pub door : w.door ≡ p.door
  pub entropy : w.entropy ≡ p.entropy

module _ {D E C : Type 0} (tell : C → Told) (entrance : D → Entrance C) (random : E → Random) (desk : BookDesk) where
  -- the worker served its door
  pub record Works (v w : Worker D E C) : Type 0 where
    pub belongs : Belongs desk w.pass
    pub names : w.pass.view.names ≡ v.pass.view.names
    pub stake : w.pass.view.stake ≡ v.pass.view.stake
    pub locality : w.locality ≡ v.locality
    pub each_is : w.each ≡ v.each
    pub sound : Sound IsLegalFor w.pass.view
    pub made :
        AllByRecursion (IsFrom (own_name w.pass.view) v.locality w.tally.connections) (history_of w.pass.view.made)
    pub served :
        ServesDoor tell desk.terms.capacity v.locality w.tally w.pass.view
        (entrance v.door).lists (entrance w.door).lists (random v.entropy) (random w.entropy)
    pub at_most : w.tally.connections ≤ v.each
    pub whole : w.tally.connections < v.each → IsTrue w.tally.door_failed ⊎ NoneWaits (entrance w.door).lists
    pub door_failed : OnTrue w.tally.door_failed (Rose (entrance v.door).faults (entrance w.door).faults)
    pub door_kept : OnFalse w.tally.door_failed ((entrance w.door).faults ≡ (entrance v.door).faults)
    pub out : (entrance w.door).out ≡ (entrance v.door).out

-- what the worker leaves
abbrev pub post_of : {D E C : Type 0} → Worker D E C → Post D E C
post_of w = record { door = w.door; entropy = w.entropy; locality = w.locality; room = w.room; tally = w.tally }

-- the worker is done: its pass of one name made calls under it alone
pub record IsDone {D E C : Type 0} (desk : BookDesk) (w : Worker D E C) : Type 0 where
  pub belongs : Belongs desk w.pass
  pub named : w.pass.view.names ≡ own_name w.pass.view ∷ []
  pub stake : w.pass.view.stake ≡ 1
  pub sound : Sound IsLegalFor w.pass.view
  pub alone : made_by (own_name w.pass.view) w.pass.view.made ≡ w.pass.view.made

-- a pass took in another
pub record Joins (old other new : Seat) : Type 0 where
  pub names : new.names ≡ old.names ++ other.names
  pub stake : new.stake ≡ old.stake + other.stake
  pub made : new.made ≡ old.made ++ other.made
  pub full : new.full ≡ either_of old.full other.full
  pub apart : (n : ℕ) → 0 < times n old.names → times n other.names ≡ 0
  pub sound : Sound IsLegalFor new

-- Of all that the pass made, the worker's part is what it made under its name.
pub record IsWithin {D E C : Type 0} (pass : Seat) (w : Worker D E C) : Type 0 where
  pub own : 0 < times (own_name w.pass.view) pass.names
  pub made : made_by (own_name w.pass.view) pass.made ≡ w.pass.view.made
  pub full : w.pass.view.full ≢ None → pass.full ≢ None

-- The passes of these workers were joined to a pass that made nothing itself.
pub record Gathers {D E C : Type 0} (old : Seat) (workers : List (Worker D E C)) (new : Seat) : Type 0 where
  pub names : new.names ≡ old.names ++ map (λ w. own_name w.pass.view) workers
  pub stake : new.stake ≡ old.stake + length workers
  pub within : AllByRecursion (IsWithin new) workers
  pub idle : made_by (own_name old) new.made ≡ []
  pub sound : Sound IsLegalFor new
