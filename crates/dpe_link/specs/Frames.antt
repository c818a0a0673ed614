-- Frames on a stream: a payload behind its length, what begins a frame without being one, and the one way to split bytes.
use Rattle.std.specs.Prelude.{ℕ, ◌+◌, ◌<◌, ◌≤◌, ◌≡◌, ◌⊎◌, List, [], ◌++◌, length, take, flat_map}
use Rattle.std.specs.List.{AllByRecursion}
use Rattle.std.specs.Int.{to_be_bytes, from_be_bytes, w32}

-- a payload on the link: its length in four bytes, big-endian, then its bytes
abbrev pub frame : List ℕ → List ℕ
frame payload = to_be_bytes w32 (length payload) ++ payload

-- the length that a head tells
abbrev pub told_length : List ℕ → ℕ
told_length head = from_be_bytes w32 (take 4 head)

-- bytes that begin a frame and are less than a whole one: a part of the head, or a head and a part of its payload
pub data IsUnfinished (bytes : List ℕ) : Type 0 where
  in_head : 0 < length bytes → length bytes < 4 → IsUnfinished bytes
  in_payload : 4 ≤ length bytes → told_length bytes ≤ 4096 → length bytes < 4 + told_length bytes → IsUnfinished bytes

-- a head that tells more than a frame may have
pub record IsTooLong (bytes : List ℕ) : Type 0 where
  pub head : 4 ≤ length bytes
  pub long : 4096 < told_length bytes

-- The bytes are the frames of the payloads, and then a rest that begins with no whole frame.
pub record Frames (bytes : List ℕ) (payloads : List (List ℕ)) (rest : List ℕ) : Type 0 where
  pub whole : bytes ≡ flat_map frame payloads ++ rest
  pub each : AllByRecursion (λ payload. length payload ≤ 4096) payloads
  pub partial : (rest ≡ []) ⊎ (IsUnfinished rest ⊎ IsTooLong rest)

-- Bytes are framed in one way.
abbrev pub FramesAreOne : Type 0
FramesAreOne =
    (bytes : List ℕ) (payloads others : List (List ℕ)) (rest left : List ℕ) →
    Frames bytes payloads rest → Frames bytes others left → (payloads ≡ others) × (rest ≡ left)
