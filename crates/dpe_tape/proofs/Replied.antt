-- The reply to a command is one of the replies that its sender may read.
use Rattle.std.proofs.Common.{◌≡◌, ℕ, ◌-◌, List, length, refl, ap, sym, ◌∙◌, subst, inl, inr, ◌⊎◌, Option, Some, None, is_some, arith}
use Rattle.std.proofs.lemmas.List.{length-drop}
use Rattle.dpe_messages.specs.Request.{Request, get_profile, initialize, derive, sign, seal, unseal, rotate, destroy}
use Rattle.dpe_messages.specs.Ranges.{InRanges}
use Rattle.dpe_messages.specs.Class.{accepted}
use Rattle.dpe_messages.specs.CommandRows.{command_payload}
use Rattle.dpe_messages.specs.Replies as replies
use Rattle.dpe_messages.specs.Replies.{Response, IsRefusal, IsAnswer, IsReplyTo, reply_payload}
use Rattle.dpe_messages.proofs.CommandsBack.{commands_back}
use Rattle.dpe_inputs.specs.Cdi.{attest_cdi, seal_cdi}
use Rattle.dpe_model.specs.State.{Row, State, path}
use Rattle.dpe_model.specs.Verdict.{uses_row, used, verdict}
use Rattle.dpe_model.specs.Step.{Outcome, step, done, answer, masks_of, salt_of}
use Rattle.dpe_model.proofs.Sizes.{length-signature, length-sealed_box, length-text_of}
use Rattle.dpe_model.proofs.Accepted.{IsStep, refusing, obeying, each_step, passed}
use Rattle.dpe_model.proofs.Issues.{answer_sendable, row_used}
use Rattle.dpe_tape.specs.Load.{asked_of}

-- what an accepted command is answered
answer_to : (seed : List ℕ) (S : State) (random : List ℕ) (request : Request) (row : Option Row) → length random ≡ 32 → uses_row request ≡ is_some row → InRanges request →
    replies.IsSendable (answer seed S random request row) → IsAnswer (asked_of request) (answer seed S random request row)
answer_to seed S random get_profile None h t r s = refl
answer_to seed S random get_profile (Some row) h t r s = cc
answer_to seed S random (initialize default) None h t r s = s
answer_to seed S random (initialize default) (Some row) h t r s = cc
answer_to seed S random (derive d) None h t r s = cc
answer_to seed S random (derive d) (Some row) h t r s = s
answer_to seed S random (sign q) None h t r s = cc
answer_to seed S random (sign q) (Some row) h t r s =
    let long = length-signature (attest_cdi seed (path row)) q.label q.message in (s.0, omega (arith, long), omega (arith, long))
answer_to seed S random (seal q) None h t r s = cc
answer_to seed S random (seal q) (Some row) h t r s =
    let salt : length (salt_of random) ≡ 16 = length-drop 16 random ∙ ap (λ (n : ℕ). n - 16) h in
    let long = length-sealed_box (seal_cdi seed (path row)) q.label (masks_of q) (salt_of random) q.plain salt in
    (s.0, omega (arith, long), s.1)
answer_to seed S random (unseal q) None h t r s = cc
answer_to seed S random (unseal q) (Some row) h t r s = (s.0, omega arith, length-text_of (seal_cdi seed (path row)) q.label q.sealed)
answer_to seed S random (rotate old default) None h t r s = cc
answer_to seed S random (rotate old default) (Some row) h t r s = s
answer_to seed S random (destroy old all) None h t r s = cc
answer_to seed S random (destroy old all) (Some row) h t r s = refl

abbrev MayRead : Request → Response → Type 0
MayRead request r = IsRefusal r ⊎ IsAnswer (asked_of request) r

obeyed_to : (seed : List ℕ) (S : State) (locality : ℕ) (random : List ℕ) (request : Request) → length random ≡ 32 → InRanges request → verdict seed S locality request ≡ None
    → MayRead request (done seed S locality random request (used S locality request)).reply
obeyed_to seed S locality random request long range accepts =
    let test = passed seed S locality request (used S locality request) accepts in
    let row = row_used seed S locality request test in
    let send = answer_sendable seed S random request (used S locality request) long row range in
    inr (answer_to seed S random request (used S locality request) long row range send)

accepted_one : (r q : Request) → accepted r ≡ accepted q → r ≡ q
accepted_one r q e = cc

-- what the step answers to a command in its ranges is a reply to that command
replied_by : (seed : List ℕ) (S : State) (locality : ℕ) (random : List ℕ) (request : Request) (o : Outcome) → length random ≡ 32 → InRanges request → IsStep seed S locality random (command_payload request) o → MayRead request o.reply
replied_by seed S locality random request o long range (refusing code allowed) = inl (code, allowed, refl)
replied_by seed S locality random request o long range (obeying other is accepts) =
    let same : request ≡ other = accepted_one request other (sym (commands_back request range) ∙ is) in
    let whole = obeyed_to seed S locality random request long range (subst (λ (q : Request). verdict seed S locality q ≡ None) (sym same) accepts) in
    subst (λ (q : Request). MayRead request (done seed S locality random q (used S locality q)).reply) same whole

pub replied : (seed : List ℕ) (S : State) (locality : ℕ) (random : List ℕ) (request : Request) → length random ≡ 32 → InRanges request
    → let r = (step seed S locality random (command_payload request)).reply in IsReplyTo (asked_of request) r (reply_payload r)
replied seed S locality random request long range =
    (replied_by seed S locality random request (step seed S locality random (command_payload request)) long range (each_step seed S locality random (command_payload request)), refl)
