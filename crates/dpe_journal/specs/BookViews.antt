-- What a book stands for, and what it is to step it.
use Rattle.std.specs.Prelude.{ℕ, List, [], ◌∷◌, ◌++◌}
use Rattle.dpe_messages.specs.Replies.{reply_payload}
use Rattle.dpe_model.specs.History.{Entry, state_after}
use Rattle.dpe_model.specs.State.{State, Machine}
use Rattle.dpe_model.specs.Step.{Outcome, step}
use Rattle.dpe_journal.specs.Entries.{Sent, entry_from}

-- Entries in order, with room for so many.
pub record Storage : Type 0 where
  pub capacity : ℕ
  pub entries : List Entry

-- The seed, the first serial, the most entries, and the history of all that was done.
pub record BookView : Type 0 where
  pub seed : List ℕ
  pub first : ℕ
  pub capacity : ℕ
  pub history : List Entry

-- one entry more, at the end
abbrev pub stored_with : Storage → Entry → Storage
stored_with storage e = record storage { entries = storage.entries ++ e ∷ [] }

abbrev pub with_entry : BookView → Entry → BookView
with_entry book e = record book { history = book.history ++ e ∷ [] }

-- what an executor that stands there makes of what is sent
abbrev pub outcome_of : Machine → Sent → Outcome
outcome_of machine sent = step machine.seed machine.state sent.locality sent.random sent.payload

-- where it stands then
abbrev pub stepped : Machine → Sent → Machine
stepped machine sent = record machine { state = (outcome_of machine sent).state }

-- the payload of its reply
abbrev pub answer_to : Machine → Sent → List ℕ
answer_to machine sent = reply_payload (outcome_of machine sent).reply

-- the entry of what a caller sends and its reply
abbrev pub answered : Machine → ℕ → Sent → Entry
answered machine caller sent = entry_from caller sent (answer_to machine sent)

-- the state to which the history leads
abbrev pub state_in : BookView → State
state_in book = state_after book.seed book.first book.history

-- the payload of the reply to what is sent next
abbrev pub next_reply : BookView → Sent → List ℕ
next_reply book sent = reply_payload (step book.seed (state_in book) sent.locality sent.random sent.payload).reply

-- the entry of what a caller sends next
abbrev pub next_entry : BookView → ℕ → Sent → Entry
next_entry book caller sent = entry_from caller sent (next_reply book sent)
