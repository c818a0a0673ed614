-- A search by halves in rows of ascending serials.
use Rattle.std.proofs.Common.{◌≡◌, ℕ, ◌+◌, ◌*◌, ◌^◌, ◌<◌, ◌≤◌, List, length, get_or, ap, sym, subst, ◌∙◌, arith}
use Rattle.std.proofs.Math.Nat.{mul-le-mul_left, pow-suc}
use Rattle.std.proofs.Math.Pow.{pow_mono}
use Rattle.std.proofs.lemmas.Option.{get_or_from_slice_get, slice_get_within}
use native.Mathlib.Decide.{ℕ_discrete, dec_lt}
use Rattle.dpe_handles.specs.declared.row.Row.{Row}
use Rattle.dpe_handles.specs.Rows.{serial, row_limit, IsAscending, HasSerial, IsOnlyAt, HalvingLooks, HalvingSteps}

-- the rows from the place on have greater serials
abbrev pub Above : List Row → ℕ → ℕ → Type 0
Above rows key high = (k : ℕ) (d : Row) → high ≤ k → k < length rows → key < serial (get_or rows k d).handle

-- the row at the place has no greater serial, or it is the first
abbrev pub NotAbove : List Row → ℕ → ℕ → Type 0
NotAbove rows key at = (d : Row) → 0 < at → serial (get_or rows at d).handle ≤ key

-- so many serials were looked at, and so many places are left beside one
abbrev pub Halves : ℕ → ℕ → ℕ → ℕ → Type 0
Halves others before after left =
    (looks : ℕ) × (after ≡ before + looks) × (2 ^ looks * left ≤ others) × (2 ^ looks ≤ 2 * others + 1) × (others < 2 ^ looks * (left + 1))

pub halves_first : (others before : ℕ) → Halves others before before others
halves_first others before = (0, omega arith, omega arith, omega arith, omega arith)

halved : (p half left others : ℕ) → half + half ≤ left → p * left ≤ others → (p * 2) * half ≤ others
halved p half left others le h = let a = mul-le-mul_left p le in grind arith

-- no more than half of the places fall away
kept_half : (p half left others : ℕ) → left ≤ half + half + 1 → others < p * (left + 1) → others < (p * 2) * (half + 1)
kept_half p half left others le h = let a = mul-le-mul_left {m = left + 1} {n = 2 * (half + 1)} p (omega arith) in grind arith

at_least : (p left others : ℕ) → 0 < left → p * left ≤ others → p ≤ others
at_least p left others pos h = let a = mul-le-mul_left {m = 1} {n = left} p (omega arith) in grind arith

-- one serial more was looked at, and half of the other places are left
pub halves_next : (others before after now left half : ℕ) → now ≡ after + 1 → 0 < left → half + half ≤ left → left ≤ half + half + 1 → Halves others before after left → Halves others before now half
halves_next others before after now left half one pos le ge h =
    let s = h.0 in
    let same = h.1 in
    let twice : 2 ^ (s + 1) ≡ 2 ^ s * 2 = ap (λ i. 2 ^ i) (omega arith) ∙ pow-suc 2 s in
    let few = at_least (2 ^ s) left others pos h.2 in
    let P : ℕ → Type 0 = λ p. p * half ≤ others in
    let Q : ℕ → Type 0 = λ p. others < p * (half + 1) in
    (s + 1, omega arith, subst P (sym twice) (halved (2 ^ s) half left others le h.2), omega arith, subst Q (sym twice) (kept_half (2 ^ s) half left others ge h.4))

-- the count fits, as there are at most 1,024 rows
few_fit : (rows looks before after : ℕ) → rows ≤ row_limit → before ≤ 2147483648 → after ≡ before + looks → 2 ^ looks ≤ 2 * rows + 1 → after < 4294967295
few_fit rows looks before after most small same few = elim (dec_lt 11 looks) [
  | yes lt ↦ absurd (let a = pow_mono {i = 12} {j = looks} (omega arith) in omega arith)
  | no ge ↦ omega arith
]

pub halves_fit : (others before after left : ℕ) → others ≤ row_limit → before ≤ 2147483648 → Halves others before after left → after < 4294967295
halves_fit others before after left most small h = few_fit others h.0 before after most small h.1 h.3

pub looks_fit : (rows before after : ℕ) → rows ≤ row_limit → before ≤ 2147483648 → HalvingLooks rows before after → after < 4294967295
looks_fit rows before after most small h = let a = h.3 in few_fit rows h.0 before after most small h.1 (omega arith)

-- where one place is left
pub all_looks : (rows others before after left : ℕ) → others + 1 ≡ rows → left ≡ 0 → Halves others before after left → HalvingLooks rows before after
all_looks rows others before after left one none h =
    let few = h.3 in
    let many : others < 2 ^ h.0 * 1 = subst (λ (n : ℕ). others < 2 ^ h.0 * (n + 1)) none h.4 in
    (h.0, h.1, omega arith, omega arith)

-- and then one row
pub all_steps : (rows before after now : ℕ) → now ≡ after + 1 → HalvingLooks rows before after → HalvingSteps rows before now
all_steps rows before after now one h =
    let s = h.0 in
    let same = h.1 in
    let many = h.2 in
    let few = h.3 in
    let twice : 2 ^ (s + 1) ≡ 2 ^ s * 2 = ap (λ i. 2 ^ i) (omega arith) ∙ pow-suc 2 s in
    (s + 1, omega arith, omega arith, omega arith)

module _ (rows : List Row) (key : ℕ) (up : IsAscending rows) (at number : ℕ) (here : HasSerial rows at number) where
  is_there : (d : Row) → serial (get_or rows at d).handle ≡ number
  is_there d = ap (λ (r : Row). serial r.handle) (get_or_from_slice_get rows at here.0 d here.1) ∙ here.2

  pub not_above : number ≤ key → NotAbove rows key at
  not_above le d pos = let e = is_there d in omega arith

  pub above_more : (high : ℕ) → at ≤ high → key < number → Above rows key high
  above_more high le greater k d from lt =
      let e = is_there d in
      elim (ℕ_discrete k at) [
        | yes same ↦ (let P : ℕ → Type 0 = λ i. key < serial (get_or rows i d).handle in subst P (sym same) (omega arith))
        | no apart ↦ (let a = up at k d (omega arith) lt in omega arith)
      ]

-- where one place is left, no other row has the serial
pub only_one : (rows : List Row) (key : ℕ) → IsAscending rows → (at : ℕ) → at < length rows → NotAbove rows key at → Above rows key (at + 1) → IsOnlyAt rows key at
only_one rows key up at within floor above k r found e =
    let lt = slice_get_within rows k r found in
    let f : serial (get_or rows k r).handle ≡ serial r.handle = ap (λ (q : Row). serial q.handle) (get_or_from_slice_get rows k r r found) in
    elim (ℕ_discrete k at) [
      | yes same ↦ same
      | no apart ↦ elim (dec_lt k at) [
        | yes less ↦ absurd (let a = up k at r less within in let b = floor r (omega arith) in omega arith)
        | no ge ↦ absurd (let a = above k r (omega arith) lt in omega arith)
      ]
    ]
