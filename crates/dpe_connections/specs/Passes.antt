-- The calls of a pass over a book, as entries of a history.
use Rattle.std.specs.Prelude.{ℕ, ◌≡◌, List, ◌++◌, map}
use Rattle.dpe_desk.specs.declared.view.View.{View}
use Rattle.dpe_desk.specs.Passes.{own_name}
use Rattle.dpe_model.specs.History.{Entry, entries_of_connection}
use Rattle.dpe_journal.specs.BookViews.{BookView}
use Rattle.dpe_journal.specs.Entries.{Sent}
use Rattle.dpe_journal.specs.Shared.{Shared, entry_in}

-- what a pass over a book knows
abbrev pub Seat : Type 0
Seat = View BookView Sent (List ℕ)

abbrev pub history_of : List Shared → List Entry
history_of calls = map entry_in calls

-- the entries of a connection of the pass, of those that it has seen
abbrev pub entries_on : Seat → ℕ → List Entry
entries_on seat connection = entries_of_connection (history_of seat.seen) (own_name seat) connection

-- the same, of those that it has made
abbrev pub made_on : Seat → ℕ → List Entry
made_on seat connection = entries_of_connection (history_of seat.made) (own_name seat) connection

-- the pass made just these entries more
abbrev pub MadeJust : Seat → List Entry → Seat → Type 0
MadeJust old entries new = history_of new.made ≡ history_of old.made ++ entries
