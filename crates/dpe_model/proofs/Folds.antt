-- Accepted signatures, boxes and texts are computed from the path at their entry.
use Rattle.std.proofs.Common.{◌≡◌, ℕ, List, ◌∷◌, refl, ap, sym, ◌∙◌, subst, true, false, Option, Some, None, is_some}
use Rattle.dpe_inputs.specs.Cdi.{seal_cdi}
use Rattle.dpe_box.specs.Sealed as boxes
use Rattle.dpe_messages.specs.Request.{Request, SignRequest, SealRequest, UnsealRequest, get_profile, initialize, derive, sign, seal, unseal, rotate, destroy}
use Rattle.dpe_messages.specs.Replies.{made, reply_payload}
use Rattle.dpe_model.specs.State.{Row, State, start, path}
use Rattle.dpe_model.specs.Verdict.{used, tests, first_code, is_malformed, is_refused}
use Rattle.dpe_model.specs.Step.{new_if, answer, text_of}
use Rattle.dpe_model.specs.History.{Entry, Legal, state_after, path_at, is_accepted, request_at}
use Rattle.dpe_model.specs.Laws.{IsFolded, FoldedInputs}
use Rattle.dpe_model.proofs.Accepted.{passed, none_applies}
use Rattle.dpe_model.proofs.Issues.{found_row, row_used}
use Rattle.dpe_model.proofs.Answered.{Answered, answered, path_is}
use Rattle.dpe_model.proofs.Runs.{legal_rest}

fold_sign : (seed : List ℕ) (S : State) (e : Entry) (s : SignRequest) → is_accepted e ≡ true → request_at e ≡ Some (sign s) → Answered seed S e (sign s) →
    (o : Option Row) → used S e.locality (sign s) ≡ o → true ≡ is_some o → IsFolded seed (path_at S e) e (sign s)
fold_sign seed S e s a c h None u t = cc
fold_sign seed S e s a c h (Some row) u t =
    subst (λ p. IsFolded seed p e (sign s)) (sym (path_is S e (sign s) (Some row) a c u))
    (new_if S e.random s.retain, h.reply ∙ ap (λ o. reply_payload (answer seed S e.random (sign s) o)) u)

fold_seal : (seed : List ℕ) (S : State) (e : Entry) (s : SealRequest) → is_accepted e ≡ true → request_at e ≡ Some (seal s) → Answered seed S e (seal s) →
    (o : Option Row) → used S e.locality (seal s) ≡ o → true ≡ is_some o → IsFolded seed (path_at S e) e (seal s)
fold_seal seed S e s a c h None u t = cc
fold_seal seed S e s a c h (Some row) u t =
    subst (λ p. IsFolded seed p e (seal s)) (sym (path_is S e (seal s) (Some row) a c u))
    (new_if S e.random s.retain, h.reply ∙ ap (λ o. reply_payload (answer seed S e.random (seal s) o)) u)

fold_unseal : (seed : List ℕ) (S : State) (e : Entry) (s : UnsealRequest) → is_accepted e ≡ true → request_at e ≡ Some (unseal s) → Answered seed S e (unseal s) →
    (o : Option Row) → used S e.locality (unseal s) ≡ o → first_code (tests seed S e.locality (unseal s) o) ≡ None → IsFolded seed (path_at S e) e (unseal s)
fold_unseal seed S e s a c h None u t = let p = passed seed S e.locality (unseal s) None t in let k = found_row s.handle None p.found p.default in cc
fold_unseal seed S e s a c h (Some row) u t =
    subst (λ p. IsFolded seed p e (unseal s)) (sym (path_is S e (unseal s) (Some row) a c u))
    (let all = none_applies (tests seed S e.locality (unseal s) (Some row)) t in by_opening (boxes.opened (seal_cdi seed (path row)) s.label s.sealed) refl all.1.1.1.1.1.1.1.1.1.1.0 all.1.1.1.1.1.1.1.1.1.1.1.0)
  where
    told : e.reply ≡ reply_payload (made (new_if S e.random s.retain) (text_of (boxes.opened (seal_cdi seed (path row)) s.label s.sealed)))
    told = h.reply ∙ ap (λ o. reply_payload (answer seed S e.random (unseal s) o)) u

    by_opening : (found : boxes.Opening) → boxes.opened (seal_cdi seed (path row)) s.label s.sealed ≡ found → is_malformed (boxes.opened (seal_cdi seed (path row)) s.label s.sealed) ≡ false →
        is_refused (boxes.opened (seal_cdi seed (path row)) s.label s.sealed) ≡ false → IsFolded seed (path row) e (unseal s)
    by_opening boxes.malformed f m r = let w : is_malformed boxes.malformed ≡ false = subst (λ x. is_malformed x ≡ false) f m in cc
    by_opening boxes.refused f m r = let w : is_refused boxes.refused ≡ false = subst (λ x. is_refused x ≡ false) f r in cc
    by_opening (boxes.opened_as masks plain) f m r = (plain, (masks, f), (new_if S e.random s.retain, told ∙ ap (λ o. reply_payload (made (new_if S e.random s.retain) (text_of o))) f))

fold_at : (seed : List ℕ) (S : State) (e : Entry) (request : Request) → is_accepted e ≡ true → request_at e ≡ Some request → Answered seed S e request → IsFolded seed (path_at S e) e request
fold_at seed S e (sign s) a c h = fold_sign seed S e s a c h (used S e.locality (sign s)) refl (row_used seed S e.locality (sign s) (passed seed S e.locality (sign s) (used S e.locality (sign s)) h.ok))
fold_at seed S e (seal s) a c h = fold_seal seed S e s a c h (used S e.locality (seal s)) refl (row_used seed S e.locality (seal s) (passed seed S e.locality (seal s) (used S e.locality (seal s)) h.ok))
fold_at seed S e (unseal s) a c h = fold_unseal seed S e s a c h (used S e.locality (unseal s)) refl h.ok
fold_at seed S e get_profile a c h = tt
fold_at seed S e (initialize m) a c h = tt
fold_at seed S e (derive d) a c h = tt
fold_at seed S e (rotate d m) a c h = tt
fold_at seed S e (destroy d r) a c h = tt

pub inputs_folded : (seed : List ℕ) (first : ℕ) (H : List Entry) → Legal seed first H → FoldedInputs seed first H
inputs_folded seed first H h before rest e request is c a =
    let S = state_after seed first before in
    fold_at seed S e request a c (answered seed S e rest request (legal_rest seed (start first) before (e ∷ rest) (subst (Legal seed first) is h)) a c)
