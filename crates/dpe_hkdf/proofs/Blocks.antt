-- The output, a block at a time.
use Rattle.std.proofs.Common.{◌≡◌, ℕ, zero, suc, ◌+◌, ◌-◌, ◌*◌, ◌≤◌, ◌<◌, List, [], ◌∷◌, ◌++◌, length, take, refl, sym, ap, ◌∙◌, arith, add-one, length-append}
use Rattle.std.specs.Int.{div_ceil}
use Rattle.std.proofs.lemmas.List.{take_all}
use Rattle.dpe_hmac.specs.Hmac.{hmac}
use Rattle.dpe_hmac.proofs.Lengths.{length-hmac}
use Rattle.dpe_hkdf.specs.Hkdf.{output_block, output_blocks, expand}

-- where one list goes on in another
take-append : (n : ℕ) (a b : List ℕ) → length a ≤ n → take n (a ++ b) ≡ a ++ take (n - length a) b
take-append zero [] b le = refl
take-append zero (x ∷ a) b le = absurd (omega arith)
take-append (suc n) [] b le = let same : suc n - 0 ≡ suc n = omega arith in rw same refl
take-append (suc n) (x ∷ a) b le =
    let same : suc n - suc (length a) ≡ n - length a = omega arith in
    ap (λ (r : List ℕ). x ∷ r) (take-append n a b (omega arith)) ∙ rw same refl

output_block-first : (prk info : List ℕ) → output_block prk info 1 ≡ hmac prk (info ++ 1 ∷ [])
unfolding output_block
output_block-first prk info = refl

output_block-next : (prk info : List ℕ) (i : ℕ) → output_block prk info (i + 1) ≡ hmac prk (output_block prk info i ++ info ++ (i + 1) ∷ [])
unfolding output_block
output_block-next prk info i = let e : i + 1 ≡ suc i = omega arith in ap (output_block prk info) e

output_blocks-next : (prk info : List ℕ) (i : ℕ) → output_blocks prk info (i + 1) ≡ output_blocks prk info i ++ output_block prk info (i + 1)
unfolding output_blocks
output_blocks-next prk info i = rw add-one refl

length-output_block : (prk info : List ℕ) (i : ℕ) → length (output_block prk info (i + 1)) ≡ 64
length-output_block prk info i = rw (output_block-next prk info i) (length-hmac prk (output_block prk info i ++ info ++ (i + 1) ∷ []))

-- after i blocks: how far the output has come, and the block before the next
pub record After (prk info : List ℕ) (len i : ℕ) (out block : List ℕ) : Type 0 where
  pub len_is : length out ≡ len
  pub whole : length (output_blocks prk info i) ≡ 64 * i
  pub done : take (64 * i) out ≡ take len (output_blocks prk info i)
  pub before : 0 < i → block ≡ output_block prk info i

pub After-none : (prk info : List ℕ) (out block : List ℕ) → After prk info (length out) 0 out block
unfolding output_blocks
After-none prk info out block = record { len_is = refl; whole = refl; done = sym (take_all (length out) [] (omega arith)); before = λ h. absurd (omega arith) }

pub After-more : (prk info : List ℕ) (len i : ℕ) (out block next_out next : List ℕ) → After prk info len i out block → 64 * i ≤ len → next ≡ output_block prk info (i + 1)
    → length next_out ≡ len → take (64 * i + 64) next_out ≡ take (64 * i) out ++ take (length out - 64 * i) next → After prk info len (i + 1) next_out next
After-more prk info len i out block next_out next before le is_block len_is put =
    let sized : length next ≡ 64 = ap length is_block ∙ length-output_block prk info i in
    let next_is = output_blocks-next prk info i in
    let all : take len (output_blocks prk info i) ≡ output_blocks prk info i = take_all len (output_blocks prk info i) (omega (arith, before.whole)) in
    let place : 64 * (i + 1) ≡ 64 * i + 64 = omega arith in
    let rest : length out - 64 * i ≡ len - length (output_blocks prk info i) = omega (arith, before.whole, before.len_is) in
    record {
      len_is = len_is;
      whole = rw (next_is, ← is_block) (omega (arith, length-append (output_blocks prk info i) next, before.whole));
      done = rw (place, next_is, ← is_block, put, before.done, all, rest) (sym (take-append len (output_blocks prk info i) next (omega (arith, before.whole))));
      before = λ h. is_block;
    }

pub next_is_block : (prk info : List ℕ) (len i : ℕ) (out block : List ℕ) → After prk info len i out block → 0 < i → hmac prk (block ++ info ++ (i + 1) ∷ []) ≡ output_block prk info (i + 1)
next_is_block prk info len i out block before lt = rw (before.before lt) (sym (output_block-next prk info i))

pub first_is_block : (prk info : List ℕ) (i : ℕ) → i ≡ 0 → hmac prk (info ++ 1 ∷ []) ≡ output_block prk info (i + 1)
first_is_block prk info i e = rw e (sym (output_block-first prk info))

pub After-all : (prk info : List ℕ) (len i : ℕ) (out block : List ℕ) → After prk info len i out block → i ≡ div_ceil len 64 → out ≡ expand prk info len
After-all prk info len i out block before e =
    sym (take_all (64 * i) out (omega (arith, before.len_is))) ∙ before.done ∙ ap (λ (n : ℕ). take len (output_blocks prk info n)) e
