-- HKDF (RFC 5869, section 2) with HMAC-SHA-512, whose codes have HashLen = 64 bytes.
use Rattle.std.specs.Prelude.{ℕ, zero, suc, ◌+◌, List, [], ◌∷◌, ◌++◌, length, take, replicate, Option, unwrap_or}
use Rattle.std.specs.Int.{div_ceil}
use Rattle.dpe_hmac.specs.Hmac.{hmac}

-- HashLen zeros stand for an absent salt (2.2).
abbrev pub extract : Option (List ℕ) → List ℕ → List ℕ
extract salt ikm = hmac (unwrap_or salt (replicate 64 0)) ikm

-- T(i) of the key prk and the info, with T(0) empty (2.3)
unfoldable pub output_block : List ℕ → List ℕ → ℕ → List ℕ
output_block prk info zero = []
output_block prk info (suc i) = hmac prk (output_block prk info i ++ info ++ (i + 1) ∷ [])

-- T(1) ‖ .. ‖ T(n)
unfoldable pub output_blocks : List ℕ → List ℕ → ℕ → List ℕ
output_blocks prk info zero = []
output_blocks prk info (suc n) = output_blocks prk info n ++ output_block prk info (suc n)

-- the first len bytes of T(1) ‖ .. ‖ T(N), where N is len / HashLen rounded up (2.3)
abbrev pub expand : List ℕ → List ℕ → ℕ → List ℕ
expand prk info len = take len (output_blocks prk info (div_ceil len 64))

abbrev pub hkdf : Option (List ℕ) → List ℕ → List ℕ → ℕ → List ℕ
hkdf salt ikm info len = expand (extract salt ikm) info len

-- a purpose, the length of a label as one byte, and the label
abbrev pub labelled : List ℕ → List ℕ → List ℕ
labelled purpose label = purpose ++ length label ∷ label
