-- How long signatures, boxes and texts are.
use Rattle.std.proofs.Common.{◌≡◌, ℕ, ◌+◌, ◌≤◌, Bool, true, false, cond, List, ◌∷◌, ◌++◌, length, take, drop, replicate, refl, arith, length-append}
use Rattle.std.specs.Int.{w16, to_be_bytes}
use Rattle.std.proofs.lemmas.List.{length-take}
use Rattle.dpe_hmac.proofs.Lengths.{length-hmac}
use Rattle.dpe_chacha.specs.ChaCha20.{key_stream}
use Rattle.dpe_chacha.proofs.Stream.{length-combined}
use Rattle.dpe_inputs.specs.Cdi.{signature}
use Rattle.dpe_box.specs.declared.policy.Policy.{Policy}
use Rattle.dpe_box.specs.Sealed.{keys, ciphered, tag, front, sealed_box, masks_of, keys_of, ciphertext_of, length_of, has_form, has_tag, opened, opened_as, malformed, refused}
use Rattle.dpe_model.specs.Step.{text_of}

pub length-signature : (cdi label message : List ℕ) → length (signature cdi label message) ≡ 64
unfolding signature
length-signature cdi label message = length-hmac _ message

length-ciphered : (k text : List ℕ) → length (ciphered k text) ≡ length text
unfolding ciphered
length-ciphered k text = length-combined text (key_stream (take 32 k) (replicate 12 0) 0 (length text))

length-tag : (k f : List ℕ) → length (tag k f) ≡ 64
unfolding tag
length-tag k f = length-hmac (drop 32 k) f

length-front : (salt : List ℕ) (masks : Policy) (c : List ℕ) → length salt ≡ 16 → length (front salt masks c) ≡ 21 + length c
length-front salt masks c h =
    let middle = masks.localities ∷ masks.modes ∷ to_be_bytes w16 (length c) in
    omega (arith, length-append ((1 ∷ salt) ++ middle) c, length-append (1 ∷ salt) middle)

pub length-sealed_box : (cdi label : List ℕ) (masks : Policy) (salt text : List ℕ) → length salt ≡ 16 → length (sealed_box cdi label masks salt text) ≡ 85 + length text
unfolding sealed_box
length-sealed_box cdi label masks salt text h =
    let k = keys cdi label masks salt in
    let f = front salt masks (ciphered k text) in
    omega (arith, length-append f (tag k f), length-front salt masks (ciphered k text) h, length-ciphered k text, length-tag k f)

length_fits : (b : List ℕ) → has_form b ≡ true → length_of b ≤ 2048
length_fits b form = grind arith

text_by : (form tagged : Bool) (cdi label b : List ℕ) → has_form b ≡ form →
    length (text_of (cond form (cond tagged (opened_as (masks_of b) (ciphered (keys_of cdi label b) (ciphertext_of b))) refused) malformed)) ≤ 2048
text_by false tagged cdi label b h = omega arith
text_by true false cdi label b h = omega arith
text_by true true cdi label b h = omega (arith, length-ciphered (keys_of cdi label b) (ciphertext_of b), length-take (length_of b) (drop 21 b), length_fits b h)

pub length-text_of : (cdi label b : List ℕ) → length (text_of (opened cdi label b)) ≤ 2048
unfolding opened
length-text_of cdi label b = text_by (has_form b) (has_tag cdi label b) cdi label b refl
