-- Boxes: plaintext under ChaCha20, and an HMAC over all that stands before it.
use Rattle.std.specs.Prelude.{ℕ, ◌+◌, ◌-◌, ◌==◌, Bool, ◌&&◌, List, ◌∷◌, [], ◌++◌, length, take, drop, replicate, Some, codes, nat_le, slice_index, if◌then◌else◌, ◌/◌, ◌%◌, ◌^◌}
use Rattle.std.specs.Int.{w16, to_be_bytes, from_be_bytes}
use Rattle.std.specs.Str.{bytes_eq}
use Rattle.dpe_hmac.specs.Hmac.{hmac}
use Rattle.dpe_hkdf.specs.Hkdf.{hkdf, labelled}
use Rattle.dpe_chacha.specs.ChaCha20.{chacha20}
use Rattle.dpe_box.specs.declared.policy.Policy.{Policy}

-- 32 bytes of key for the cipher, and then 64 for the tag
unfoldable pub keys : List ℕ → List ℕ → Policy → List ℕ → List ℕ
keys cdi label masks salt =
    hkdf (Some salt) cdi (labelled (codes "DPE-BOX" ++ masks.localities ∷ masks.modes ∷ []) label) 96

-- The data and the ciphertext are each the other under the cipher, with nonce zero and counter 0.
unfoldable pub ciphered : List ℕ → List ℕ → List ℕ
ciphered k text = chacha20 (take 32 k) (replicate 12 0) 0 text

unfoldable pub tag : List ℕ → List ℕ → List ℕ
tag k front = hmac (drop 32 k) front

-- what stands before the tag: version, salt, localities, modes, length, ciphertext
abbrev pub front : List ℕ → Policy → List ℕ → List ℕ
front salt masks ciphertext = 1 ∷ salt ++ masks.localities ∷ masks.modes ∷ to_be_bytes w16 (length ciphertext) ++ ciphertext

abbrev pub with_tag : List ℕ → List ℕ → List ℕ
with_tag k f = f ++ tag k f

unfoldable pub sealed_box : List ℕ → List ℕ → Policy → List ℕ → List ℕ → List ℕ
sealed_box cdi label masks salt text =
    let k = keys cdi label masks salt in
    with_tag k (front salt masks (ciphered k text))

-- the parts of a box b
abbrev pub salt_of : List ℕ → List ℕ
salt_of b = take 16 (drop 1 b)

abbrev pub masks_of : List ℕ → Policy
masks_of b = record { localities = slice_index b 17; modes = slice_index b 18 }

abbrev pub length_of : List ℕ → ℕ
length_of b = from_be_bytes w16 (drop 19 b)

abbrev pub ciphertext_of : List ℕ → List ℕ
ciphertext_of b = take (length_of b) (drop 21 b)

abbrev pub before_tag : List ℕ → List ℕ
before_tag b = take (length b - 64) b

abbrev pub tag_of : List ℕ → List ℕ
tag_of b = drop (length b - 64) b

abbrev pub keys_of : List ℕ → List ℕ → List ℕ → List ℕ
keys_of cdi label b = keys cdi label (masks_of b) (salt_of b)

abbrev pub has_form : List ℕ → Bool
has_form b =
    nat_le 85 (length b) && (slice_index b 0 == 1) && nat_le (slice_index b 18) 15 && nat_le (length_of b) 2048
    && (length b == 85 + length_of b)

-- All 64 bytes are the tag of what stands before them.
abbrev pub has_tag : List ℕ → List ℕ → List ℕ → Bool
has_tag cdi label b = bytes_eq (tag_of b) (tag (keys_of cdi label b) (before_tag b))

pub data Opening : Type 0 where
  malformed : Opening
  refused : Opening
  opened_as : Policy → List ℕ → Opening

-- malformed without the form, else refused without the tag, else the masks and the data
unfoldable pub opened : List ℕ → List ℕ → List ℕ → Opening
opened cdi label b =
    if has_form b then
    (if has_tag cdi label b then opened_as (masks_of b) (ciphered (keys_of cdi label b) (ciphertext_of b)) else refused)
    else malformed

-- bit i of a mask
abbrev pub has_bit : ℕ → ℕ → Bool
has_bit mask i = mask / 2 ^ i % 2 == 1

abbrev pub admits : Policy → ℕ → ℕ → Bool
admits masks locality mode = has_bit masks.localities locality && has_bit masks.modes mode
