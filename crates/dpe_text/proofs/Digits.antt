-- The last digit of a number.
use Rattle.std.proofs.Common.{◌≡◌, ℕ, ◌+◌, ◌/◌, ◌%◌, ◌<◌, ◌≤◌, ◌^◌, List, [], ◌∷◌, ◌++◌, length, sym, ap, ◌∙◌, append_assoc, arith}
use Rattle.std.specs.Fmt.{decimal}
use Rattle.std.proofs.lemmas.List.{length-append}
use Rattle.std.proofs.lemmas.Fmt.{decimal_digit, decimal_step, decimal_nonempty, length-decimal-le}

pub only_digit : (n : ℕ) → n < 10 → (48 + n % 10) ∷ [] ≡ decimal n
only_digit n small = let e : n % 10 ≡ n = omega arith in ap (λ (k : ℕ). (48 + k) ∷ []) e ∙ sym (decimal_digit n small)

pub some_digit : (n : ℕ) → n < 2 ^ 64 → 1 ≤ length (decimal n)
some_digit n fits = let h = decimal_nonempty n fits in omega (arith, h)

pub digits_before : (n : ℕ) → 10 ≤ n → n < 2 ^ 64 → length (decimal n) ≡ length (decimal (n / 10)) + 1
digits_before n big fits = ap length (decimal_step n big fits) ∙ length-append (decimal (n / 10)) ((48 + n % 10) ∷ [])

-- a text, the digits before the last, and the last
pub last_digit : (n : ℕ) (old front : List ℕ) → 10 ≤ n → n < 2 ^ 64 → front ≡ old ++ decimal (n / 10) → front ++ ((48 + n % 10) ∷ []) ≡ old ++ decimal n
last_digit n old front big fits is =
    ap (λ (t : List ℕ). t ++ ((48 + n % 10) ∷ [])) is ∙ append_assoc old (decimal (n / 10)) ((48 + n % 10) ∷ []) ∙ ap (λ (t : List ℕ). old ++ t) (sym (decimal_step n big fits))

pub few_digits : (n : ℕ) → n < 2 ^ 64 → length (decimal n) ≤ 20
few_digits n fits = length-decimal-le 20 n (omega arith) (omega arith) fits
