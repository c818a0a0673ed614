-- The laws of the encoding, and of the decoders.
use Rattle.std.specs.Prelude.{◌≡◌, List, ℕ, ◌++◌, Option}
use Rattle.dpe_cbor.specs.Item.{Item, uint, MayFollow}
use Rattle.dpe_cbor.specs.Encoding.{Enc}

-- An item has one encoding.
abbrev pub OneEncoding : Type 0
OneEncoding = (x : Item) (a b : List ℕ) → Enc x a → Enc x b → a ≡ b

-- No encoding is a proper prefix of another: where two begin one list, they are one encoding of one item.
abbrev pub NoneBeginsAnother : Type 0
NoneBeginsAnother =
    (x y : Item) (a b r s : List ℕ) → Enc x a → Enc y b → a ++ r ≡ b ++ s → (x ≡ y) × (a ≡ b) × (r ≡ s)

-- b is the encoding of a key that may follow the last one
abbrev pub IsKey : Option ℕ → ℕ → List ℕ → Type 0
IsKey last k b = MayFollow last k × Enc (uint k) b
