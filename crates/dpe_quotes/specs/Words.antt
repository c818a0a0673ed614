-- The program's words.
use Rattle.std.specs.Prelude.{◌≡◌, ℕ, ◌≤◌, List, [], ◌∷◌, length, map, codes, Ok}
use Rattle.std.specs.Borrow.{Bor}
use Rattle.hex.specs.Hex.{decode_of, decode_sized}
use Rattle.dpe_quotes.specs.declared.words.VerifyRequest.{VerifyRequest}
use Rattle.dpe_quotes.specs.declared.words.MakeRequest.{MakeRequest}
use Rattle.dpe_quotes.specs.declared.words.Request.{Request}
use Rattle.dpe_quotes.specs.declared.words.Request.TheVariants.{Verify, Make}

abbrev pub texts : List (Bor (List ℕ)) → List (List ℕ)
texts words = map (λ word. word.now) words

-- digits spell a nonce of 8 to 64 bytes
pub record IsNonce (digits nonce : List ℕ) : Type 0 where
  pub decoded : decode_of digits ≡ Ok nonce
  pub least : 8 ≤ length nonce
  pub most : length nonce ≤ 64

-- `verify`, the seed and the nonce
pub record IsVerify (words : List (List ℕ)) (asked : VerifyRequest) : Type 0 where
  pub seed_digits : List ℕ
  pub nonce_digits : List ℕ
  pub form : words ≡ codes "verify" ∷ seed_digits ∷ nonce_digits ∷ []
  pub seed : decode_sized seed_digits 32 ≡ Ok asked.seed
  pub nonce : IsNonce nonce_digits asked.nonce

-- `make`, the nonce and the tag
pub record IsMake (words : List (List ℕ)) (asked : MakeRequest) : Type 0 where
  pub nonce_digits : List ℕ
  pub tag_digits : List ℕ
  pub form : words ≡ codes "make" ∷ nonce_digits ∷ tag_digits ∷ []
  pub nonce : IsNonce nonce_digits asked.nonce
  pub tag : decode_sized tag_digits 64 ≡ Ok asked.tag

-- the words ask for this
abbrev pub AskFor : List (List ℕ) → Request → Type 0
AskFor words (Verify asked) = IsVerify words asked
AskFor words (Make asked) = IsMake words asked

-- the words are of neither form
pub record AreFaulty (words : List (List ℕ)) : Type 0 where
  pub no_verify : (asked : VerifyRequest) → IsVerify words asked → ⊥
  pub no_make : (asked : MakeRequest) → IsMake words asked → ⊥
