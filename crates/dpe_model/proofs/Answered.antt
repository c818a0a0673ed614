-- What an accepted entry of a legal history says.
use Rattle.std.proofs.Common.{◌≡◌, ℕ, List, ◌∷◌, refl, ap, ◌∙◌, subst, true, cond, Option, Some, None, option_and_then}
use Rattle.dpe_messages.specs.Request.{Request}
use Rattle.dpe_messages.specs.Class as classes
use Rattle.dpe_messages.specs.Replies.{reply_payload}
use Rattle.dpe_model.specs.State.{Row, State}
use Rattle.dpe_model.specs.Verdict.{used, verdict}
use Rattle.dpe_model.specs.Step.{Outcome, step, answer}
use Rattle.dpe_model.specs.History.{Entry, LegalFrom, accepted_class, request_at, is_accepted, path_at, path_of}
use Rattle.dpe_model.proofs.Accepted.{IsStep, refusing, obeying, each_step}
use Rattle.dpe_model.proofs.Spent.{refused_not_accepted}
use Rattle.dpe_model.proofs.Runs.{legal_head}

-- an entry whose payload is a command has it as its class
pub class_is : (e : Entry) (request : Request) → request_at e ≡ Some request → classes.class e.payload ≡ classes.accepted request
class_is e request h = by_class (classes.class e.payload) refl h
  where
    by_class : (c : classes.Class) → classes.class e.payload ≡ c → accepted_class c ≡ Some request → classes.class e.payload ≡ classes.accepted request
    by_class (classes.accepted other) is k = let same : other ≡ request = cc in is ∙ ap classes.accepted same
    by_class (classes.refused code) is k = cc

pub record Answered (seed : List ℕ) (S : State) (e : Entry) (request : Request) : Type 0 where
  pub ok : verdict seed S e.locality request ≡ None
  pub reply : e.reply ≡ reply_payload (answer seed S e.random request (used S e.locality request))

answered_step : (seed : List ℕ) (S : State) (e : Entry) (request : Request) → is_accepted e ≡ true → request_at e ≡ Some request →
    (o : Outcome) → IsStep seed S e.locality e.random e.payload o → e.reply ≡ reply_payload o.reply → Answered seed S e request
answered_step seed S e request a c o (refusing code z) h = absurd (refused_not_accepted e code z h a)
answered_step seed S e request a c o (obeying other is ok) h =
    let own = class_is e request c in
    let same : other ≡ request = cc in
    record {
      ok = subst (λ k. verdict seed S e.locality k ≡ None) same ok;
      reply = subst (λ k. e.reply ≡ reply_payload (answer seed S e.random k (used S e.locality k))) same h;
    }

pub answered : (seed : List ℕ) (S : State) (e : Entry) (es : List Entry) (request : Request) → LegalFrom seed S (e ∷ es) → is_accepted e ≡ true → request_at e ≡ Some request → Answered seed S e request
answered seed S e es request h a c =
    answered_step seed S e request a c (step seed S e.locality e.random e.payload) (each_step seed S e.locality e.random e.payload) (legal_head seed S e es h)

-- the path at an accepted entry is that of the row that its command uses
pub path_is : (S : State) (e : Entry) (request : Request) (o : Option Row) → is_accepted e ≡ true → request_at e ≡ Some request → used S e.locality request ≡ o → path_at S e ≡ path_of o
path_is S e request o a c u = ap (λ b. path_of (cond b (option_and_then (used S e.locality) (request_at e)) None)) a
    ∙ (ap (λ k. path_of (option_and_then (used S e.locality) k)) c ∙ ap path_of u)
