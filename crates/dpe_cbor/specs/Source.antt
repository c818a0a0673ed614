-- What a reader sees, and what it takes.
use Rattle.std.specs.Prelude.{◌≡◌, ℕ, ◌+◌, ◌<◌, ◌^◌, List, ◌++◌, length}
use Rattle.dpe_cbor.specs.Encoding.{head}

-- the place of a reader, which is the number of bytes before it, and the bytes that are left
pub record Source : Type 0 where
  pub at : ℕ
  pub rest : List ℕ

-- the bytes between the reader's place before and after are a P
abbrev pub Takes : Source → Source → (List ℕ → Type 0) → Type 0
Takes old new P = (b : List ℕ) × P b × (old.rest ≡ b ++ new.rest) × (new.at ≡ old.at + length b)

-- some prefix of the rest is a P
abbrev pub Begins : Source → (List ℕ → Type 0) → Type 0
Begins source P = (b after : List ℕ) × P b × (source.rest ≡ b ++ after)

-- b begins with a head, and then comes after
abbrev pub HeadFirst : ℕ → ℕ → List ℕ → List ℕ → Type 0
HeadFirst major n after b = (n < 2 ^ 64) × (b ≡ head major n ++ after)

-- b begins with a head that tells the length of s, and s, and then comes after
abbrev pub StringFirst : ℕ → List ℕ → List ℕ → List ℕ → Type 0
StringFirst major s after b = (length s < 2 ^ 64) × (b ≡ (head major (length s) ++ s) ++ after)
