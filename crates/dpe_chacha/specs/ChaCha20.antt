-- ChaCha20 (RFC 8439, sections 2.3 and 2.4), with the rounds of `rand_chacha`.
use Rattle.std.specs.Prelude.{ℕ, zero, suc, ◌+◌, List, [], ◌∷◌, ◌++◌, length, take, bit_xor, slice_index}
use Rattle.std.specs.Int.{w32, to_le_bytes, div_ceil}
use Rattle.rand_core.specs.Steps.{u32_at}
use Rattle.rand_chacha.specs.Block.{add32, double_rounds}

-- the state: four constants, the eight words of the key, the block counter and the three words of
-- the nonce, each word with its low byte first (2.3)
abbrev pub state : List ℕ → List ℕ → ℕ → List ℕ
state key nonce counter =
    0x61707865 ∷ 0x3320646e ∷ 0x79622d32 ∷ 0x6b206574
    ∷ u32_at key 0 ∷ u32_at key 1 ∷ u32_at key 2 ∷ u32_at key 3
    ∷ u32_at key 4 ∷ u32_at key 5 ∷ u32_at key 6 ∷ u32_at key 7
    ∷ counter ∷ u32_at nonce 0 ∷ u32_at nonce 1 ∷ u32_at nonce 2 ∷ []

-- word k of a block: that of the state after 20 rounds, plus that of the state (2.3)
unfoldable pub word : List ℕ → List ℕ → ℕ → ℕ → ℕ
word key nonce counter k =
    let x = state key nonce counter in
    add32 (slice_index (double_rounds 10 x) k) (slice_index x k)

-- the first n words of a block, each with its low byte first
unfoldable pub words : List ℕ → List ℕ → ℕ → ℕ → List ℕ
words key nonce counter zero = []
words key nonce counter (suc n) = words key nonce counter n ++ to_le_bytes w32 (word key nonce counter n)

-- a block of key stream (2.3)
abbrev pub block : List ℕ → List ℕ → ℕ → List ℕ
block key nonce counter = words key nonce counter 16

-- the blocks of n successive counters (2.4)
unfoldable pub blocks : List ℕ → List ℕ → ℕ → ℕ → List ℕ
blocks key nonce counter zero = []
blocks key nonce counter (suc n) = blocks key nonce counter n ++ block key nonce (counter + n)

-- the first n bytes of the key stream from this counter on
abbrev pub key_stream : List ℕ → List ℕ → ℕ → ℕ → List ℕ
key_stream key nonce counter n = take n (blocks key nonce counter (div_ceil n 64))

-- a text and a key stream, combined byte by byte by exclusive or
abbrev pub combined : List ℕ → List ℕ → List ℕ
combined [] stream = []
combined (x ∷ text) [] = x ∷ text
combined (x ∷ text) (k ∷ stream) = bit_xor x k ∷ combined text stream

-- the text under ChaCha20 (2.4)
abbrev pub chacha20 : List ℕ → List ℕ → ℕ → List ℕ → List ℕ
chacha20 key nonce counter text = combined text (key_stream key nonce counter (length text))
