-- What holds of the signatures in each legal history.
use Rattle.std.specs.Prelude.{◌≡◌, ℕ, ◌≤◌, true, List, ◌∷◌, ◌++◌, length, codes, Some}
use Rattle.dpe_messages.specs.Request.{SignRequest, sign}
use Rattle.dpe_model.specs.History.{Entry, Legal, state_after, request_at, is_accepted, path_at}
use Rattle.dpe_model.specs.Laws.{IsReplyWith}
use Rattle.dpe_quotes.specs.Quotes.{Quote, IsQuote, Proves}

-- this nonce and this tag, with the path at the entry
abbrev pub quote_at : List ℕ → ℕ → List Entry → Entry → List ℕ → List ℕ → Quote
quote_at seed first before e nonce tag =
    record { nonce = nonce; path = path_at (state_after seed first before) e; tag = tag }

-- The reply gives a tag of 64 bytes, which proves the path at the entry for this nonce. Where the nonce has 8 to 64 bytes
-- the three are a quote.
pub record ProvesPath (seed : List ℕ) (first : ℕ) (before : List Entry) (e : Entry) (nonce : List ℕ) : Type 0 where
  pub tag : List ℕ
  pub replied : IsReplyWith tag e.reply
  pub size : length tag ≡ 64
  pub proves : Proves seed (quote_at seed first before e nonce tag)
  pub quote : 8 ≤ length nonce → length nonce ≤ 64 → IsQuote (quote_at seed first before e nonce tag)

-- An accepted Sign under the label makes, of its message as the nonce and the path at its entry, a quote that proves this
-- path.
abbrev pub SignsProve : Type 0
SignsProve =
    (seed : List ℕ) (first : ℕ) (H before rest : List Entry) (e : Entry) (s : SignRequest)
    → Legal seed first H → H ≡ before ++ e ∷ rest → request_at e ≡ Some (sign s) → is_accepted e ≡ true
    → s.label ≡ codes "DPE-QUOTE" → ProvesPath seed first before e s.message
