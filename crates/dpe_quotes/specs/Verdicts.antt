-- What a verifier answers.
use Rattle.std.specs.Prelude.{◌≡◌, ℕ, if◌then◌else◌, List, length, codes, Result, Ok, Err}
use Rattle.std.specs.Str.{bytes_eq}
use Rattle.dpe_cbor.specs.Source.{Source}
use Rattle.dpe_cbor.specs.declared.reader.NotDeterministic.{NotDeterministic}
use Rattle.dpe_inputs.specs.declared.Input.{Input}
use Rattle.dpe_inputs.specs.Cdi.{attest_cdi, signature}
use Rattle.dpe_quotes.specs.declared.verifying.Claims.{Claims}
use Rattle.dpe_quotes.specs.declared.verifying.QuoteFault.{QuoteFault}
use Rattle.dpe_quotes.specs.declared.verifying.QuoteFault.TheVariants.{Malformed, Nonce, Tag}
use Rattle.dpe_quotes.specs.Quotes.{Quote, tag_for}
use Rattle.dpe_quotes.specs.Reading.{path_in, quote_in}

-- the nonce is compared, then the tag with the one that the path gives
abbrev pub judged : List ℕ → List ℕ → Quote → Result ℕ QuoteFault
judged seed nonce q =
    if bytes_eq q.nonce nonce
    then (if bytes_eq q.tag (tag_for seed q.path q.nonce) then Ok (length q.path) else Err Tag)
    else Err Nonce

abbrev pub by_reading : List ℕ → List ℕ → Result Quote ℕ → Result ℕ QuoteFault
by_reading seed nonce (Ok q) = judged seed nonce q
by_reading seed nonce (Err at) = Err (Malformed at)

-- the depth of a path that the bytes prove, or the first fault
abbrev pub verdict : List ℕ → List ℕ → List ℕ → Result ℕ QuoteFault
verdict seed nonce b = by_reading seed nonce (quote_in b)

-- ## What the verifier keeps of a quote

-- the CDI of the path that was read, or the place of the fault
abbrev pub Folded : List ℕ → ℕ → Source → Source → Result (List ℕ) NotDeterministic → Type 0
Folded seed n old new (Ok cdi) = (path : List Input) × (path_in n old ≡ Ok (path, new)) × (cdi ≡ attest_cdi seed path)
Folded seed n old new (Err e) = path_in n old ≡ Err e.at

-- what is to be said of the claims
abbrev pub claims_verdict : Claims → List ℕ → Result ℕ QuoteFault
claims_verdict claims nonce =
    if bytes_eq claims.nonce.now nonce
    then (if bytes_eq claims.tag.now (signature claims.cdi (codes "DPE-QUOTE") claims.nonce.now) then Ok claims.depth else Err Tag)
    else Err Nonce

-- the claims are those of this quote, whose path is folded
pub record Claimed (seed : List ℕ) (claims : Claims) (q : Quote) : Type 0 where
  pub nonce : claims.nonce.now ≡ q.nonce
  pub depth : claims.depth ≡ length q.path
  pub cdi : claims.cdi ≡ attest_cdi seed q.path
  pub tag : claims.tag.now ≡ q.tag

abbrev pub ReadsClaims : List ℕ → List ℕ → Result Claims NotDeterministic → Type 0
ReadsClaims seed b (Ok claims) = (q : Quote) × (quote_in b ≡ Ok q) × Claimed seed claims q
ReadsClaims seed b (Err e) = quote_in b ≡ Err e.at
