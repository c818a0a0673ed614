-- What a step of a book comes to.
use Rattle.std.proofs.Common.{◌≡◌, ℕ, ◌^◌, ◌<◌, ◌≤◌, List, [], ◌∷◌, ◌++◌, refl, ap, sym, ◌∙◌, length, take, subst, arith}
use Rattle.std.proofs.lemmas.List.{take_all}
use Rattle.dpe_cbor.specs.Decoding.{AreBytes}
use Rattle.dpe_messages.specs.Replies.{payload_limit, reply_payload}
use Rattle.dpe_model.specs.History.{Entry, IsEntry, Legal, state_after}
use Rattle.dpe_model.specs.State.{State, Machine, Valid, start}
use Rattle.dpe_model.specs.Step.{Outcome, step, IsReply}
use Rattle.dpe_model.proofs.Runs.{legal_append, legal_one, after_append}
use Rattle.dpe_model.proofs.ValidStep.{valid_all, valid_start}
use Rattle.dpe_journal.specs.BookViews.{BookView, state_in, next_entry, outcome_of, stepped, answer_to, answered}
use Rattle.dpe_journal.specs.Entries.{Sent, entry_from}

-- what is stored of a call is an entry, as what was read of it is
pub entry_in_form : (caller : ℕ) (sent : Sent) (random payload stored reply : List ℕ) → caller < 2 ^ 32 → sent.connection < 2 ^ 32
    → sent.index < 2 ^ 32 → sent.locality ≤ 7 → length sent.random ≡ 32 → random ≡ sent.random → AreBytes random
    → length sent.payload ≤ payload_limit → payload ≡ sent.payload → AreBytes payload → stored ≡ reply → length stored ≤ payload_limit
    → AreBytes stored
    → IsEntry (entry_from caller sent reply)
entry_in_form caller sent random payload stored reply few connection index near long r rs short p ps is fits bytes = record {
  caller = few;
  connection = connection;
  index = index;
  locality = near;
  random = (long, subst AreBytes r rs);
  payload = (short, subst AreBytes p ps);
  reply = subst (λ (b : List ℕ). (length b ≤ payload_limit) × AreBytes b) is (fits, bytes);
}

pub valid_book : (book : BookView) → book.first < 2 ^ 64 → Legal book.seed book.first book.history → Valid (state_in book)
valid_book book serial legal = valid_all book.seed (start book.first) book.history legal (valid_start book.first serial)

-- what was read of what is sent makes the same step
same_step : (core : Machine) (sent : Sent) (locality : ℕ) (random payload : List ℕ) → locality ≡ sent.locality → random ≡ sent.random
    → payload ≡ sent.payload → step core.seed core.state locality random payload ≡ outcome_of core sent
same_step core sent locality random payload l r p =
    ap (λ x. step core.seed core.state x random payload) l ∙ ap (λ x. step core.seed core.state sent.locality x payload) r
    ∙ ap (λ x. step core.seed core.state sent.locality sent.random x) p

-- the reply stands in the first bytes of the room
pub given_reply : (core : Machine) (sent : Sent) (locality size : ℕ) (random payload out : List ℕ) → locality ≡ sent.locality → random ≡ sent.random
    → payload ≡ sent.payload → length out ≡ payload_limit → IsReply out size (step core.seed core.state locality random payload)
    → (size ≤ length (take payload_limit out)) × (take size (take payload_limit out) ≡ answer_to core sent)
given_reply core sent locality size random payload out l r p n reply =
    let whole : out ≡ take payload_limit out = sym (take_all payload_limit out (omega (arith, n))) in
    subst (λ (t : List ℕ). (size ≤ length t) × (take size t ≡ answer_to core sent)) whole
    (reply.0, reply.1 ∙ ap (λ (o : Outcome). reply_payload o.reply) (same_step core sent locality random payload l r p))

abbrev pub machine_in : BookView → Machine
machine_in book = record { seed = book.seed; state = state_in book }

-- the history with the entry is legal, and the executor stands behind it
pub record Stepped (book : BookView) (now : Machine) (e : Entry) : Type 0 where
  pub legal : Legal book.seed book.first (book.history ++ e ∷ [])
  pub core : now ≡ record { seed = book.seed; state = state_after book.seed book.first (book.history ++ e ∷ []) }

stepped_there : (book : BookView) (now : Machine) (caller : ℕ) (sent : Sent) → Legal book.seed book.first book.history
    → IsEntry (next_entry book caller sent) → now ≡ stepped (machine_in book) sent → Stepped book now (next_entry book caller sent)
stepped_there book now caller sent legal is becomes = record {
  legal = legal_append book.seed (start book.first) book.history _ legal (legal_one book.seed _ _ is refl);
  core = becomes
      ∙ ap (λ (S : State). record { seed = book.seed; state = S })
      (sym (after_append book.seed (start book.first) book.history (next_entry book caller sent ∷ [])));
}

pub stepped_book : (book : BookView) (core now : Machine) (caller : ℕ) (sent : Sent) → Legal book.seed book.first book.history
    → core ≡ machine_in book → IsEntry (answered core caller sent) → now ≡ stepped core sent
    → Stepped book now (answered core caller sent)
stepped_book book core now caller sent legal stands is becomes =
    let there : (m : Machine) → Type 0 = λ m. IsEntry (answered m caller sent) → now ≡ stepped m sent → Stepped book now (answered m caller sent) in
    subst there (sym stands) (stepped_there book now caller sent legal) is becomes
