-- A book as an object that threads share: its history as a list of calls and replies.
use Rattle.std.specs.Prelude.{ℕ, List, ◌++◌, map}
use Rattle.std.proofs.Common.{subst}
use Rattle.std.proofs.lemmas.List.{map-append}
use Rattle.dpe_desk.specs.declared.sequential.Entry.{Entry}
use Rattle.dpe_model.specs.History as history
use Rattle.dpe_model.specs.History.{Legal}
use Rattle.dpe_model.specs.Laws.{HandleLaws}
use Rattle.dpe_model.specs.State.{start}
use Rattle.dpe_model.proofs.Runs.{legal_front}
use Rattle.dpe_journal.specs.BookViews.{BookView}
use Rattle.dpe_journal.specs.Entries.{Sent, entry_from}

-- one answered call of those that share the book
abbrev pub Shared : Type 0
Shared = Entry Sent (List ℕ)

abbrev pub shared_from : history.Entry → Shared
shared_from e = record {
  caller = e.caller;
  call = record { connection = e.connection; index = e.index; locality = e.locality; random = e.random; payload = e.payload };
  reply = e.reply;
}

abbrev pub entry_in : Shared → history.Entry
entry_in e = entry_from e.caller e.call e.reply

-- the calls are a legal history from the book's seed and first serial on
abbrev pub IsLegalFor : BookView → List Shared → Type 0
IsLegalFor book es = Legal book.seed book.first (map entry_in es)

-- and the laws of handles and boxes hold of them
abbrev pub HandleLawsFor : BookView → List Shared → Type 0
HandleLawsFor book es = HandleLaws book.seed book.first (map entry_in es)

pub legal_prefix : (book : BookView) (xs ys : List Shared) → IsLegalFor book (xs ++ ys) → IsLegalFor book xs
legal_prefix book xs ys legal =
    legal_front book.seed (start book.first) (map entry_in xs) (map entry_in ys)
    (subst (Legal book.seed book.first) (map-append entry_in xs ys) legal)
