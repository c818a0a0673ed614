-- The generator's words are the key stream's, and the text takes them block by block.
use Rattle.std.proofs.Common.{◌≡◌, ℕ, zero, suc, ◌+◌, ◌*◌, ◌/◌, ◌%◌, ◌^◌, ◌≤◌, ◌<◌, min, List, [], ◌∷◌, ◌++◌, length, get_or, set, take, drop, bit_xor, refl, sym, ap, ◌∙◌, arith, add-one, length-append}
use Rattle.std.specs.Int.{w32, to_le_bytes, div_ceil}
use Rattle.std.proofs.lemmas.List.{take_all}
use Rattle.rand_core.specs.Steps.{u32_at, word_bytes, fill_via_u32}
use Rattle.rand_chacha.specs.Block.{add32, double_rounds, initial_state, block_word}
use Rattle.rand_chacha.specs.ChaCha.{ChaCha, key_of, next_word}
use Rattle.dpe_chacha.specs.ChaCha20.{state, word, words, block, blocks, combined, chacha20}

-- ---- a block of the generator

-- the generator before word k of the block at this counter and nonce
abbrev pub at_word : List ℕ → List ℕ → ℕ → ℕ → ChaCha
at_word key nonce counter k = record {
  key = key_of key;
  stream = u32_at nonce 1 + u32_at nonce 2 * 2 ^ 32;
  word_pos = (16 * (counter + u32_at nonce 0 * 2 ^ 32) + k) % 2 ^ 68;
}

-- the layout of RFC 8439 is Bernstein's
state_is : (key nonce : List ℕ) (counter : ℕ) → counter < 2 ^ 32 → u32_at nonce 0 < 2 ^ 32 → u32_at nonce 1 < 2 ^ 32
    → initial_state (key_of key) (counter + u32_at nonce 0 * 2 ^ 32) (u32_at nonce 1 + u32_at nonce 2 * 2 ^ 32) ≡ state key nonce counter
state_is key nonce counter lt fits0 fits1 =
    let low : (counter + u32_at nonce 0 * 2 ^ 32) % 2 ^ 32 ≡ counter = omega arith in
    let high : (counter + u32_at nonce 0 * 2 ^ 32) / 2 ^ 32 ≡ u32_at nonce 0 = omega arith in
    let second : (u32_at nonce 1 + u32_at nonce 2 * 2 ^ 32) % 2 ^ 32 ≡ u32_at nonce 1 = omega arith in
    let third : (u32_at nonce 1 + u32_at nonce 2 * 2 ^ 32) / 2 ^ 32 ≡ u32_at nonce 2 = omega arith in
    rw (low, high, second, third) refl

word_is : (key nonce : List ℕ) (counter : ℕ) (k : ℕ) → counter < 2 ^ 32 → u32_at nonce 0 < 2 ^ 32 → u32_at nonce 1 < 2 ^ 32
    → block_word 10 (key_of key) (counter + u32_at nonce 0 * 2 ^ 32) (u32_at nonce 1 + u32_at nonce 2 * 2 ^ 32) k ≡ word key nonce counter k
unfolding block_word word
word_is key nonce counter k lt fits0 fits1 = ap (λ (x : List ℕ). add32 (get_or (double_rounds 10 x) k 0) (get_or x k 0)) (state_is key nonce counter lt fits0 fits1)

read_word : (key nonce : List ℕ) (counter : ℕ) (k : ℕ) → counter < 2 ^ 32 → u32_at nonce 0 < 2 ^ 32 → u32_at nonce 1 < 2 ^ 32 → k < 16
    → next_word 10 (at_word key nonce counter k) ≡ (word key nonce counter k, at_word key nonce counter (k + 1))
read_word key nonce counter k lt fits0 fits1 below =
    let b = counter + u32_at nonce 0 * 2 ^ 32 in
    let place : (16 * b + k) % 2 ^ 68 ≡ 16 * b + k = omega arith in
    let row : (16 * b + k) / 16 ≡ b = omega arith in
    let column : (16 * b + k) % 16 ≡ k = omega arith in
    let next : ((16 * b + k) + 1) % 2 ^ 68 ≡ (16 * b + (k + 1)) % 2 ^ 68 = omega arith in
    rw (place, row, column, next, word_is key nonce counter k lt fits0 fits1) refl

-- n words, and the generator after them
read_words : (key nonce : List ℕ) (counter : ℕ) (n : ℕ) → counter < 2 ^ 32 → u32_at nonce 0 < 2 ^ 32 → u32_at nonce 1 < 2 ^ 32 → n ≤ 16
    → word_bytes (to_le_bytes w32) (next_word 10) n (at_word key nonce counter 0) ≡ (words key nonce counter n, at_word key nonce counter n)
unfolding word_bytes words
read_words key nonce counter zero lt fits0 fits1 le = refl
read_words key nonce counter (suc n) lt fits0 fits1 le =
    let one : n + 1 ≡ suc n = omega arith in
    ap (λ (before : List ℕ × ChaCha). (before.0 ++ to_le_bytes w32 (next_word 10 before.1).0, (next_word 10 before.1).1)) (read_words key nonce counter n lt fits0 fits1 (omega arith))
    ∙ ap (λ (r : ℕ × ChaCha). (words key nonce counter n ++ to_le_bytes w32 r.0, r.1)) (read_word key nonce counter n lt fits0 fits1 (omega arith))
    ∙ ap (λ (k : ℕ). (words key nonce counter (suc n), at_word key nonce counter k)) one

length-words : (key nonce : List ℕ) (counter : ℕ) (n : ℕ) → length (words key nonce counter n) ≡ 4 * n
unfolding words
length-words key nonce counter zero = refl
length-words key nonce counter (suc n) = omega (arith, length-append (words key nonce counter n) (to_le_bytes w32 (word key nonce counter n)), length-words key nonce counter n)

pub read_block : (key nonce : List ℕ) (counter : ℕ) → counter < 2 ^ 32 → u32_at nonce 0 < 2 ^ 32 → u32_at nonce 1 < 2 ^ 32
    → fill_via_u32 (next_word 10) 64 (at_word key nonce counter 0) ≡ (block key nonce counter, at_word key nonce (counter + 1) 0)
read_block key nonce counter lt fits0 fits1 =
    let next : (16 * (counter + u32_at nonce 0 * 2 ^ 32) + 16) % 2 ^ 68 ≡ (16 * ((counter + 1) + u32_at nonce 0 * 2 ^ 32) + 0) % 2 ^ 68 = ap (λ (p : ℕ). p % 2 ^ 68) (omega arith) in
    rw (read_words key nonce counter 16 lt fits0 fits1 (omega arith), take_all 64 (words key nonce counter 16) (omega (arith, length-words key nonce counter 16)), next) refl

-- ---- a text, block by block

pub combined-nil : (xs : List ℕ) → combined xs [] ≡ xs
combined-nil [] = refl
combined-nil (x ∷ xs) = refl

pub combined_more : (xs ks : List ℕ) (i : ℕ) → i < length xs → i < length ks
    → combined xs (take (i + 1) ks) ≡ set (combined xs (take i ks)) i (bit_xor (get_or (combined xs (take i ks)) i 0) (get_or ks i 0))
combined_more [] ks i lt in_ks = absurd (omega arith)
combined_more (x ∷ xs) [] i lt in_ks = absurd (omega arith)
combined_more (x ∷ xs) (k ∷ ks) zero lt in_ks = ap (λ (r : List ℕ). bit_xor x k ∷ r) (combined-nil xs)
combined_more (x ∷ xs) (k ∷ ks) (suc i) lt in_ks =
    let one : suc i + 1 ≡ suc (i + 1) = omega arith in
    rw one (ap (λ (r : List ℕ). bit_xor x k ∷ r) (combined_more xs ks i (omega arith) (omega arith)))

pub length-combined : (xs ks : List ℕ) → length (combined xs ks) ≡ length xs
length-combined [] ks = refl
length-combined (x ∷ xs) [] = refl
length-combined (x ∷ xs) (k ∷ ks) = ap suc (length-combined xs ks)

-- a stream in two parts
combined-append : (xs front back : List ℕ) → combined xs (front ++ back) ≡ take (length front) (combined xs front) ++ combined (drop (length front) (combined xs front)) back
combined-append [] [] back = refl
combined-append [] (a ∷ front) back = refl
combined-append (x ∷ xs) [] back = refl
combined-append (x ∷ xs) (a ∷ front) back = ap (λ (r : List ℕ). bit_xor x a ∷ r) (combined-append xs front back)

-- what is longer than the text doesn't count
pub combined-take : (xs ks : List ℕ) (n : ℕ) → min (length xs) (length ks) ≤ n → combined xs (take n ks) ≡ combined xs ks
combined-take [] ks n le = refl
combined-take (x ∷ xs) [] zero le = refl
combined-take (x ∷ xs) [] (suc n) le = refl
combined-take (x ∷ xs) (k ∷ ks) zero le = absurd (omega arith)
combined-take (x ∷ xs) (k ∷ ks) (suc n) le = ap (λ (r : List ℕ). bit_xor x k ∷ r) (combined-take xs ks n (omega arith))

length-blocks : (key nonce : List ℕ) (counter : ℕ) (n : ℕ) → length (blocks key nonce counter n) ≡ 64 * n
unfolding blocks
length-blocks key nonce counter zero = refl
length-blocks key nonce counter (suc n) = omega (arith, length-append (blocks key nonce counter n) (block key nonce (counter + n)), length-words key nonce (counter + n) 16, length-blocks key nonce counter n)

blocks_more : (key nonce : List ℕ) (counter : ℕ) (n : ℕ) → blocks key nonce counter (n + 1) ≡ blocks key nonce counter n ++ block key nonce (counter + n)
unfolding blocks
blocks_more key nonce counter n = rw add-one refl

pub none_done : (key nonce : List ℕ) (counter : ℕ) (text : List ℕ) → text ≡ combined text (blocks key nonce counter 0)
unfolding blocks
none_done key nonce counter text = sym (combined-nil text)

pub more_done : (key nonce : List ℕ) (counter : ℕ) (old text part : List ℕ) (i : ℕ) → text ≡ combined old (blocks key nonce counter i) → part ≡ combined (drop (64 * i) text) (block key nonce (counter + i))
    → take (64 * i) text ++ part ≡ combined old (blocks key nonce counter (i + 1))
more_done key nonce counter old text part i so_far is_part =
    let len = length-blocks key nonce counter i in
    rw (is_part, so_far, blocks_more key nonce counter i, ← len) (sym (combined-append old (blocks key nonce counter i) (block key nonce (counter + i))))

pub all_done : (key nonce : List ℕ) (counter : ℕ) (old text : List ℕ) (n : ℕ) → text ≡ combined old (blocks key nonce counter n) → n ≡ div_ceil (length old) 64 → text ≡ chacha20 key nonce counter old
all_done key nonce counter old text n so_far e =
    so_far ∙ ap (λ (k : ℕ). combined old (blocks key nonce counter k)) e ∙ sym (combined-take old (blocks key nonce counter (div_ceil (length old) 64)) (length old) (omega arith))

pub below : (bytes : List ℕ) (i : ℕ) → ((k : ℕ) → get_or bytes k 0 < 256) → u32_at bytes i < 2 ^ 32
unfolding u32_at
below bytes i fits = omega (arith, fits (4 * i), fits (4 * i + 1), fits (4 * i + 2), fits (4 * i + 3))

pub placed_at : (key nonce : List ℕ) (counter : ℕ) (g : ChaCha) → counter < 2 ^ 32 → u32_at nonce 0 < 2 ^ 32
    → g ≡ record { key = key_of key; stream = u32_at nonce 1 + u32_at nonce 2 * 2 ^ 32; word_pos = 16 * (counter + u32_at nonce 0 * 2 ^ 32) } → g ≡ at_word key nonce (counter + 0) 0
placed_at key nonce counter g lt fits e =
    let place : 16 * (counter + u32_at nonce 0 * 2 ^ 32) ≡ (16 * ((counter + 0) + u32_at nonce 0 * 2 ^ 32) + 0) % 2 ^ 68 = omega arith in
    e ∙ ap (λ (p : ℕ). record { key = key_of key; stream = u32_at nonce 1 + u32_at nonce 2 * 2 ^ 32; word_pos = p }) place

-- the generator goes on to the next block
pub next_is : (key nonce : List ℕ) (counter i : ℕ) (part : List ℕ) (g h : ChaCha) → g ≡ at_word key nonce (counter + i) 0 → ◌≡◌ {A = List ℕ × ChaCha} (part, h) (fill_via_u32 (next_word 10) 64 g)
    → counter + i < 2 ^ 32 → u32_at nonce 0 < 2 ^ 32 → u32_at nonce 1 < 2 ^ 32 → (part ≡ block key nonce (counter + i)) × (h ≡ at_word key nonce (counter + (i + 1)) 0)
next_is key nonce counter i part g h g_is filled lt fits0 fits1 =
    let all : ◌≡◌ {A = List ℕ × ChaCha} (part, h) (block key nonce (counter + i), at_word key nonce ((counter + i) + 1) 0) =
    filled ∙ ap (fill_via_u32 (next_word 10) 64) g_is ∙ read_block key nonce (counter + i) lt fits0 fits1 in
    let one : (counter + i) + 1 ≡ counter + (i + 1) = omega arith in
    (ap (λ (p : List ℕ × ChaCha). p.0) all, ap (λ (p : List ℕ × ChaCha). p.1) all ∙ ap (λ (k : ℕ). at_word key nonce k 0) one)
