use Rattle.std.proofs.Common.{◌≡◌, List, [], ◌∷◌, ◌++◌, sym, subst}
use Rattle.dpe_model.specs.History.{Entry, Legal, state_after}
use Rattle.dpe_journal.specs.Book.{view_of}
use Rattle.dpe_journal.specs.BookViews.{BookView, Storage, stored_with, answered}
use Rattle.dpe_journal.proofs.Booking.{Stepped, stepped_book}
use Rattle.dpe_journal.proofs.book.Book.step.Goals as goal

-- what is true of the history with the entry is true of what is stored
stored_now : (storage now : Storage) (e : Entry) (P : List Entry → Type 0) → now ≡ stored_with storage e → P (storage.entries ++ e ∷ []) → P now.entries
stored_now storage now e P is h = subst (λ (s : Storage). P s.entries) (sym is) h

pub invariant_of-self : goal.invariant_of-self
invariant_of-self c =
    let book : BookView = view_of c.self.inside in
    let e : Entry = answered c.self.inside.core c.args.caller c.args.call.now in
    let did : Stepped book c.append.new.core e =
    stepped_book book c.self.inside.core c.append.new.core c.args.caller c.args.call.now c.self.invariant.legal c.self.invariant.core
    c.append.ensures.entry c.append.ensures.core in record {
      serial = c.self.invariant.serial;
      legal = stored_now c.self.inside.stored c.append.new.self e (λ H. Legal book.seed book.first H) c.append.ensures.appends did.legal;
      core = stored_now c.self.inside.stored c.append.new.self e
          (λ H. c.append.new.core ≡ record { seed = book.seed; state = state_after book.seed book.first H }) c.append.ensures.appends did.core;
    }

pub returns-clause-legal : goal.returns-clause-legal
returns-clause-legal c =
    let book : BookView = view_of c.self.inside in
    let e : Entry = answered c.self.inside.core c.args.caller c.args.call.now in
    let did : Stepped book c.append.new.core e =
    stepped_book book c.self.inside.core c.append.new.core c.args.caller c.args.call.now c.self.invariant.legal c.self.invariant.core
    c.append.ensures.entry c.append.ensures.core in
    stored_now c.self.inside.stored c.append.new.self e (λ H. Legal book.seed book.first H) c.append.ensures.appends did.legal
