-- The laws of handles, of a whole history.
use Rattle.std.proofs.Common.{ℕ, List, ◌∷◌, subst}
use Rattle.dpe_model.specs.State.{start}
use Rattle.dpe_model.specs.History.{Entry, Legal, LegalFrom, after_all, all_issued}
use Rattle.dpe_model.specs.Laws.{SpentIsSpent, HandlesDiffer, IssuedBefore, Unseals}
use Rattle.dpe_model.proofs.Issues.{spread_all, differ_from_spread}
use Rattle.dpe_model.proofs.Spent.{spent_for_good}
use Rattle.dpe_model.proofs.Known.{known_before, issued_by_one}
use Rattle.dpe_model.proofs.Runs.{legal_front}
use Rattle.dpe_model.proofs.Unsealing.{unsealed}

pub stays_spent : (seed : List ℕ) (first : ℕ) (H : List Entry) → Legal seed first H → SpentIsSpent seed first H
stays_spent seed first H h before between rest e f handle is =
    spent_for_good seed first before between rest e f handle (subst (LegalFrom seed (start first)) is h)

pub all_differ : (seed : List ℕ) (first : ℕ) (H : List Entry) → Legal seed first H → HandlesDiffer H
all_differ seed first H h = differ_from_spread first (after_all seed (start first) H).next (all_issued H) (spread_all seed (start first) H h)

pub was_issued : (seed : List ℕ) (first : ℕ) (H : List Entry) → Legal seed first H → IssuedBefore seed first H
was_issued seed first H h before rest e handle is a =
    let legal = subst (LegalFrom seed (start first)) is h in
    issued_by_one before handle e.locality (all_differ seed first before (legal_front seed (start first) before (e ∷ rest) legal)) (known_before seed first before rest e handle legal a)

pub comes_back : (seed : List ℕ) (first : ℕ) (H : List Entry) → Legal seed first H → Unseals seed first H
comes_back seed first H h before between rest e f s u row is =
    unsealed seed first before between rest e f s u row (subst (LegalFrom seed (start first)) is h)
