-- How many numbers pass a test, where the test changes at one number.
use Rattle.std.proofs.Common.{◌≡◌, ◌≢◌, ℕ, zero, suc, ◌+◌, ◌<◌, ◌≤◌, Bool, true, false, refl, ap, sym, ◌∙◌, arith}
use native.Mathlib.Decide.{ℕ_discrete}
use Rattle.dpe_tree.specs.Arena.{bit, counted}

pub counted-suc : (test : ℕ → Bool) (n : ℕ) → counted test (suc n) ≡ bit (test n) + counted test n
unfolding counted
counted-suc test n = refl

pub counted-zero : (test : ℕ → Bool) → counted test 0 ≡ 0
unfolding counted
counted-zero test = refl

pub counted_same : (f g : ℕ → Bool) (n : ℕ) → ((k : ℕ) → k < n → f k ≡ g k) → counted f n ≡ counted g n
counted_same f g zero same = counted-zero f ∙ sym (counted-zero g)
counted_same f g (suc n) same =
    let head : bit (f n) ≡ bit (g n) = ap bit (same n (omega arith)) in
    let tail = counted_same f g n (λ k lt. same k (omega arith)) in
    omega (arith, counted-suc f n, counted-suc g n)

pub counted-le : (f : ℕ → Bool) (n : ℕ) → counted f n ≤ n
counted-le f zero = omega (arith, counted-zero f)
counted-le f (suc n) =
    let rest = counted-le f n in
    let is = counted-suc f n in
    let bit_le : (b : Bool) → bit b ≤ 1 = λ b. elim b as (λ v. bit v ≤ 1) [ true ↦ omega arith | false ↦ omega arith ] in
    let head = bit_le (f n) in
    omega arith

-- one number more passes
pub counted_more : (f g : ℕ → Bool) (n at : ℕ) → at < n → f at ≡ false → g at ≡ true → ((k : ℕ) → k ≢ at → f k ≡ g k) → counted g n ≡ counted f n + 1
counted_more f g zero at lt no_f yes_g same = omega arith
counted_more f g (suc n) at lt no_f yes_g same =
    elim (ℕ_discrete n at) [
      | yes e ↦ (
          let f_not : bit (f n) ≡ 0 = ap (λ k. bit (f k)) e ∙ ap bit no_f in
          let g_is : bit (g n) ≡ 1 = ap (λ k. bit (g k)) e ∙ ap bit yes_g in
          let rest = counted_same f g n (λ k below. same k (λ (is : k ≡ at). omega arith)) in
          omega (arith, counted-suc f n, counted-suc g n))
      | no apart ↦ (
          let head : bit (f n) ≡ bit (g n) = ap bit (same n apart) in
          let rest = counted_more f g n at (omega arith) no_f yes_g same in
          omega (arith, counted-suc f n, counted-suc g n))
    ]

-- a number that passes is counted
pub counted_pos : (f : ℕ → Bool) (n at : ℕ) → at < n → f at ≡ true → 0 < counted f n
counted_pos f zero at lt yes_f = omega arith
counted_pos f (suc n) at lt yes_f =
    elim (ℕ_discrete n at) [
      | yes e ↦ (
          let is : bit (f n) ≡ 1 = ap (λ k. bit (f k)) e ∙ ap bit yes_f in
          omega (arith, counted-suc f n))
      | no apart ↦ (
          let rest = counted_pos f n at (omega arith) yes_f in
          omega (arith, counted-suc f n))
    ]

-- where some are counted, one of them can be named
pub counted_some : (f : ℕ → Bool) (n : ℕ) → 0 < counted f n → (at : ℕ) × (at < n) × (f at ≡ true)
counted_some f zero pos = absurd (omega (arith, counted-zero f))
counted_some f (suc n) pos = by_last f n (f n) refl (λ more. counted_some f n more) pos where
  by_last : (f : ℕ → Bool) (n : ℕ) (b : Bool) → f n ≡ b → (0 < counted f n → (at : ℕ) × (at < n) × (f at ≡ true)) → 0 < counted f (suc n) → (at : ℕ) × (at < suc n) × (f at ≡ true)
  by_last f n true is before pos = (n, omega arith, is)
  by_last f n false is before pos =
      let head : bit (f n) ≡ 0 = ap bit is in
      let rest = before (omega (arith, counted-suc f n)) in
      (rest.0, omega (arith, rest.1), rest.2)

pub counted_none : (f : ℕ → Bool) (n : ℕ) → ((k : ℕ) → k < n → f k ≡ false) → counted f n ≡ 0
counted_none f zero none = counted-zero f
counted_none f (suc n) none =
    let head : bit (f n) ≡ 0 = ap bit (none n (omega arith)) in
    let tail = counted_none f n (λ k lt. none k (omega arith)) in
    omega (arith, counted-suc f n)
