-- The keys of a ratchet: one for each version, which follows from the key of the next higher version. HKDF (RFC 5869,
-- section 2) with an absent salt.
use Rattle.std.specs.Prelude.{◌≡◌, ℕ, zero, suc, ◌-◌, List, ◌++◌, codes, None}
use Rattle.std.specs.Int.{w16, to_be_bytes}
use Rattle.dpe_hkdf.specs.Hkdf.{hkdf}

-- versions are 0 to this one
abbrev pub top_version : ℕ
top_version = 1024

unfoldable pub top_key : List ℕ → List ℕ
top_key cdi = hkdf None cdi (codes "DPE-RATCHET") 32

-- the key of version v, from the key of the version above it
unfoldable pub key_below : List ℕ → ℕ → List ℕ
key_below above v = hkdf None above (codes "DPE-STEP" ++ to_be_bytes w16 v) 32

-- so many steps below the top
unfoldable pub key_down : List ℕ → ℕ → List ℕ
key_down cdi zero = top_key cdi
key_down cdi (suc n) = key_below (key_down cdi n) (1024 - suc n)

abbrev pub ratchet_key : List ℕ → ℕ → List ℕ
ratchet_key cdi v = key_down cdi (1024 - v)

-- A stage, as contracts see it.
pub record Staged : Type 0 where
  pub version : ℕ
  pub key : List ℕ

-- it has the key of its version, of this CDI
abbrev pub IsOf : Staged → List ℕ → Type 0
IsOf stage cdi = stage.key ≡ ratchet_key cdi stage.version
