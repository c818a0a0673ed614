-- A book as it lies in memory.
use Rattle.std.specs.Prelude.{◌^◌, ◌<◌, ◌≡◌}
use Rattle.dpe_model.specs.History.{Legal}
use Rattle.dpe_journal.specs.BookViews.{BookView, state_in}
use Rattle.dpe_journal.specs.declared.book.Book.TheInside.{Inside}

abbrev pub view_of : Inside → BookView
view_of b = record { seed = b.seed; first = b.first; capacity = b.stored.capacity; history = b.stored.entries }

-- the history is legal, and the executor stands where it leads
pub record IsBook (b : Inside) : Type 0 where
  pub serial : b.first < 2 ^ 64
  pub legal : Legal b.seed b.first b.stored.entries
  pub core : b.core ≡ record { seed = b.seed; state = state_in (view_of b) }
