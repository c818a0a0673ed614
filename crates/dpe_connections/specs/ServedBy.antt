-- What a served connection is to the pass that served it.
use Rattle.std.specs.Prelude.{ℕ, ◌≡◌, ◌≢◌, List, [], Option, None}
use Rattle.std.specs.List.{AllByRecursion}
use Rattle.dpe_model.specs.History.{Entry}
use Rattle.dpe_io.specs.Told.{Told}
use Rattle.dpe_connections.specs.Drawn.{Draws}
use Rattle.dpe_connections.specs.Endings.{Ending, words_more}
use Rattle.dpe_connections.specs.Passes.{Seat, MadeJust}
use Rattle.dpe_connections.specs.Served.{Served}

-- the entry is one of this connection of this caller
abbrev pub IsOn : ℕ → ℕ → Entry → Type 0
IsOn caller connection e = (e.caller ≡ caller) × (e.connection ≡ connection)

module _ (caller connection capacity locality : ℕ) (ending : Ending) where
  -- A connection was served by just these entries, which the pass made, and ended so.
  pub record ServedBy (v w : Seat) (before after : Told) (words left : Option (List (List ℕ))) : Type 0 where
    pub entries : List Entry
    pub made : MadeJust v entries w
    pub ours : AllByRecursion (IsOn caller connection) entries
    pub quiet : v.full ≢ None → entries ≡ []
    pub served : Served capacity locality entries before after ending
    pub drawn : Draws entries (words_more ending) words left
