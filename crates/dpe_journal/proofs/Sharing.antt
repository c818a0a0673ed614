-- A history, and the list of calls and replies that it is to those that share the book.
use Rattle.std.proofs.Common.{◌≡◌, List, [], ◌∷◌, refl, ap, sym, map, subst}
use Rattle.dpe_model.specs.History as history
use Rattle.dpe_model.specs.History.{Legal}
use Rattle.dpe_journal.specs.BookViews.{BookView, with_entry}
use Rattle.dpe_journal.specs.Shared.{shared_from, entry_in, IsLegalFor}

same_history : (H : List history.Entry) → map entry_in (map shared_from H) ≡ H
same_history [] = refl
same_history (e ∷ es) = ap (λ more. e ∷ more) (same_history es)

pub legal_shared : (book : BookView) (H : List history.Entry) → Legal book.seed book.first H → IsLegalFor book (map shared_from H)
legal_shared book H legal = subst (Legal book.seed book.first) (sym (same_history H)) legal

-- one entry more leaves the seed and the first serial
pub legal_kept : (old new : BookView) (e : history.Entry) → new ≡ with_entry old e → Legal new.seed new.first new.history
    → IsLegalFor old (map shared_from new.history)
legal_kept old new e is legal = legal_shared old new.history (subst (λ (book : BookView). Legal book.seed book.first new.history) is legal)
