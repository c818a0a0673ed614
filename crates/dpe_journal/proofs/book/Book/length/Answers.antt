use Rattle.std.proofs.Common.{subst}
use Rattle.dpe_model.specs.State.{Valid}
use Rattle.dpe_journal.specs.Book.{view_of}
use Rattle.dpe_journal.specs.BookViews.{BookView, state_in}
use Rattle.dpe_journal.proofs.Booking.{valid_book}
use Rattle.dpe_journal.proofs.book.Book.length.Goals as goal

pub returns-clause-valid : goal.returns-clause-valid
returns-clause-valid c =
    subst (λ (b : BookView). Valid (state_in b)) c.self.view_is (valid_book (view_of c.self.inside) c.self.invariant.serial c.self.invariant.legal)
