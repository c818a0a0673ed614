-- The parts of what was written, and that it opens.
use Rattle.std.proofs.Common.{◌≡◌, ℕ, ◌+◌, ◌-◌, ◌≤◌, Bool, true, cond, List, [], ◌∷◌, ◌++◌, length, get_or, take, drop, replicate, bit_xor, refl, sym, ap, ◌∙◌, append_assoc, arith, length-append}
use Rattle.std.specs.Int.{w16, to_be_bytes, from_be_bytes}
use Rattle.std.specs.Int.Bits.{xor_assoc, xor_self, xor_zero_r}
use Rattle.std.specs.Str.{bytes_eq}
use Rattle.std.proofs.lemmas.Bool.{le-leb, eq-eqb}
use Rattle.std.proofs.lemmas.List.{take_at, drop_at, drop-drop, get_or-append-add}
use Rattle.std.proofs.lemmas.Nat.{from_be_bytes-to_be_bytes_2}
use Rattle.std.proofs.lemmas.Slice.Eq.{bytes_eq-Decides}
use Rattle.dpe_hmac.proofs.Lengths.{length-hmac}
use Rattle.dpe_chacha.specs.ChaCha20.{combined, key_stream}
use Rattle.dpe_chacha.proofs.Stream.{length-combined}
use Rattle.dpe_box.specs.declared.policy.Policy.{Policy}
use Rattle.dpe_box.specs.Sealed.{keys, ciphered, tag, front, sealed_box, salt_of, masks_of, length_of, ciphertext_of, has_form, Opening, malformed, refused, opened, opened_as}
use Rattle.dpe_box.specs.Laws.{OpensAsSealed}

-- ---- the cipher twice

twice : (xs ks : List ℕ) → combined (combined xs ks) ks ≡ xs
twice [] ks = refl
twice (x ∷ xs) [] = refl
twice (x ∷ xs) (k ∷ ks) =
    let same : bit_xor (bit_xor x k) k ≡ x = rw (xor_assoc, xor_self, xor_zero_r) refl in
    ap (λ (y : ℕ). y ∷ combined (combined xs ks) ks) same ∙ ap (λ (r : List ℕ). x ∷ r) (twice xs ks)

pub length-ciphered : (k text : List ℕ) → length (ciphered k text) ≡ length text
unfolding ciphered
length-ciphered k text = length-combined text (key_stream (take 32 k) (replicate 12 0) 0 (length text))

ciphered_twice : (k text : List ℕ) → ciphered k (ciphered k text) ≡ text
unfolding ciphered
ciphered_twice k text = rw (length-ciphered k text) (twice text (key_stream (take 32 k) (replicate 12 0) 0 (length text)))

-- ---- the parts of what was written

get_or-append_at : (xs ys : List ℕ) (i n : ℕ) → i ≡ length xs + n → get_or (xs ++ ys) i 0 ≡ get_or ys n 0
get_or-append_at xs ys i n e = ap (λ (k : ℕ). get_or (xs ++ ys) k 0) e ∙ get_or-append-add xs ys n 0

drop-append_at : (xs ys : List ℕ) (i n : ℕ) → i ≡ length xs + n → drop i (xs ++ ys) ≡ drop n ys
drop-append_at xs ys i n e = ap (λ (k : ℕ). drop k (xs ++ ys)) e ∙ sym (drop-drop n (length xs) (xs ++ ys)) ∙ ap (drop n) (drop_at xs ys (length xs) refl)

-- the masks, the length, and what follows
abbrev behind : Policy → List ℕ → List ℕ → List ℕ
behind masks c t = masks.localities ∷ masks.modes ∷ (to_be_bytes w16 (length c) ++ (c ++ t))

grouped : (masks : Policy) (salt c t : List ℕ) → front salt masks c ++ t ≡ (1 ∷ salt) ++ behind masks c t
grouped masks salt c t = simp append_assoc

module _ (masks : Policy) (salt c t : List ℕ) (salt_len : length salt ≡ 16) (c_len : length c ≤ 2048) (t_len : length t ≡ 64) where
  whole : List ℕ
  whole = front salt masks c ++ t

  first_is : get_or (front salt masks c ++ t) 0 0 ≡ 1
  first_is = refl

  localities_is : get_or (front salt masks c ++ t) 17 0 ≡ masks.localities
  localities_is = ap (λ (b : List ℕ). get_or b 17 0) (grouped masks salt c t) ∙ get_or-append_at (1 ∷ salt) (behind masks c t) 17 0 (omega arith)

  modes_is : get_or (front salt masks c ++ t) 18 0 ≡ masks.modes
  modes_is = ap (λ (b : List ℕ). get_or b 18 0) (grouped masks salt c t) ∙ get_or-append_at (1 ∷ salt) (behind masks c t) 18 1 (omega arith)

  masks_is : masks_of (front salt masks c ++ t) ≡ masks
  masks_is = ap (λ (n : ℕ). record { localities = n; modes = get_or (front salt masks c ++ t) 18 0 }) localities_is ∙ ap (λ (n : ℕ). record { localities = masks.localities; modes = n }) modes_is

  salt_is : salt_of (front salt masks c ++ t) ≡ salt
  salt_is = ap salt_of (grouped masks salt c t) ∙ take_at salt (behind masks c t) 16 salt_len

  length_is : length_of (front salt masks c ++ t) ≡ length c
  length_is = ap (from_be_bytes w16) (ap (drop 19) (grouped masks salt c t) ∙ drop-append_at (1 ∷ salt) (behind masks c t) 19 2 (omega arith)) ∙ from_be_bytes-to_be_bytes_2 (length c) (omega arith)

  ciphertext_is : ciphertext_of (front salt masks c ++ t) ≡ c
  ciphertext_is =
      let rest : drop 21 (front salt masks c ++ t) ≡ c ++ t = ap (drop 21) (grouped masks salt c t) ∙ drop-append_at (1 ∷ salt) (behind masks c t) 21 4 (omega arith) in
      ap (λ (n : ℕ). take n (drop 21 (front salt masks c ++ t))) length_is ∙ ap (take (length c)) rest ∙ take_at c t (length c) refl

  all_is : length (front salt masks c ++ t) ≡ 85 + length c
  all_is = ap length (grouped masks salt c t) ∙ omega (arith, length-append (1 ∷ salt) (behind masks c t), length-append c t)

  front_len : length (front salt masks c) ≡ length (front salt masks c ++ t) - 64
  front_len = omega (arith, length-append (front salt masks c) t)

  tag_is : drop (length (front salt masks c ++ t) - 64) (front salt masks c ++ t) ≡ t
  tag_is = drop_at (front salt masks c) t (length (front salt masks c ++ t) - 64) front_len

  front_is : take (length (front salt masks c ++ t) - 64) (front salt masks c ++ t) ≡ front salt masks c
  front_is = take_at (front salt masks c) t (length (front salt masks c ++ t) - 64) front_len

  form_is : masks.modes ≤ 15 → has_form (front salt masks c ++ t) ≡ true
  form_is le = rw (all_is, modes_is, length_is, le-leb 85 (85 + length c) (omega arith), le-leb masks.modes 15 le, le-leb (length c) 2048 c_len) (eq-eqb (85 + length c) (85 + length c) refl)

same_bytes : (xs : List ℕ) → bytes_eq xs xs ≡ true
same_bytes xs = (bytes_eq-Decides xs xs).1 refl

length-tag : (k f : List ℕ) → length (tag k f) ≡ 64
unfolding tag
length-tag k f = length-hmac (drop 32 k) f

-- the opening, by whether there is the form, and by the parts
abbrev by_parts : List ℕ → List ℕ → Bool → Policy → List ℕ → List ℕ → List ℕ → List ℕ → Opening
by_parts cdi label form masks salt ciphertext before last =
    let k = keys cdi label masks salt in
    cond form (cond (bytes_eq last (tag k before)) (opened_as masks (ciphered k ciphertext)) refused) malformed

pub opens_as_sealed : OpensAsSealed
unfolding sealed_box opened
opens_as_sealed cdi label masks salt text modes_fit salt_len text_len =
    let k = keys cdi label masks salt in
    let c = ciphered k text in
    let t = tag k (front salt masks c) in
    let c_len : length c ≤ 2048 = omega (arith, length-ciphered k text) in
    let t_len = length-tag k (front salt masks c) in
    let form = form_is masks salt c t salt_len c_len t_len modes_fit in
    let m = masks_is masks salt c t salt_len c_len t_len in
    let s = salt_is masks salt c t salt_len c_len t_len in
    let inside = ciphertext_is masks salt c t salt_len c_len t_len in
    let before = front_is masks salt c t salt_len c_len t_len in
    let last = tag_is masks salt c t salt_len c_len t_len in
    (λ i. by_parts cdi label (form i) (m i) (s i) (inside i) (before i) (last i))
    ∙ ap (λ (b : Bool). cond b (opened_as masks (ciphered k c)) refused) (same_bytes t)
    ∙ ap (opened_as masks) (ciphered_twice k text)
