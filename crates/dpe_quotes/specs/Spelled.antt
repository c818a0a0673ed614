-- The bytes that are a quote.
use Rattle.std.specs.Prelude.{◌≡◌, ℕ, ◌↔◌, List, length, Result, Ok, Err}
use Rattle.dpe_cbor.specs.Decoding.{AreBytes}
use Rattle.dpe_quotes.specs.Quotes.{Quote, IsQuote, quote_bytes, Proves}
use Rattle.dpe_quotes.specs.Reading.{quote_in}
use Rattle.dpe_quotes.specs.declared.verifying.QuoteFault.{QuoteFault}
use Rattle.dpe_quotes.specs.declared.verifying.QuoteFault.TheVariants.{Malformed, Nonce, Tag}

-- the bytes are this quote
abbrev pub Spells : Quote → List ℕ → Type 0
Spells q b = IsQuote q × (b ≡ quote_bytes q)

-- what is read as a quote is the one that the bytes are
abbrev pub ReadsSpelled : Type 0
ReadsSpelled = (b : List ℕ) (q : Quote) → AreBytes b → (quote_in b ≡ Ok q) ↔ Spells q b

-- the bytes are a quote that has P
pub record QuoteWith (b : List ℕ) (P : Quote → Type 0) : Type 0 where
  pub quote : Quote
  pub spelled : Spells quote b
  pub holds : P quote

-- it has this nonce, proves its path, and the path has so many inputs
pub record ProvesDepth (seed nonce : List ℕ) (depth : ℕ) (q : Quote) : Type 0 where
  pub nonce_is : q.nonce ≡ nonce
  pub proves : Proves seed q
  pub depth_is : length q.path ≡ depth

-- it has this nonce, and doesn't prove its path
abbrev pub ProvesNone : List ℕ → List ℕ → Quote → Type 0
ProvesNone seed nonce q = (q.nonce ≡ nonce) × (Proves seed q → ⊥)

abbrev pub IsMalformed : Result ℕ QuoteFault → Type 0
IsMalformed (Ok depth) = ⊥
IsMalformed (Err (Malformed at)) = Unit {0}
IsMalformed (Err Nonce) = ⊥
IsMalformed (Err Tag) = ⊥
