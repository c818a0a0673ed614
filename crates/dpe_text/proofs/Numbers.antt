-- Numbers in decimal digits.
use Rattle.std.proofs.Common.{◌≡◌, ℕ, zero, suc, ◌^◌, ◌<◌, List, [], ◌∷◌, length, get_or, Result, Ok, Err, refl, sym, ap, ◌∙◌, arith}
use Rattle.std.specs.Fmt.{decimal}
use Rattle.std.specs.Str.Parse.{AllDigits, digits_value, ParsesUnsigned}
use Rattle.std.proofs.lemmas.Result.{OkIff-at_ok}
use Rattle.std.proofs.lemmas.Str.Parse.{IsNumeralModel, numerals_by_value, tells_digits, parse_plain, digit_at}
use Rattle.std.proofs.lemmas.Fmt.{decimal_is_IsNumeral, decimal-digits_value, parse-decimal, first_decimal, decimal_digit}

own : IsNumeralModel (AllDigits 10) (digits_value 10)
own = numerals_by_value (AllDigits 10) tells_digits

abbrev pub IsNotDecimal : List ℕ → Type 0
IsNotDecimal text = (n : ℕ) → n < 2 ^ 64 → text ≡ decimal n → ⊥

pub empty_text : (text : List ℕ) → length text ≡ 0 → IsNotDecimal text
empty_text text none n lt e =
    let some : 0 < length (decimal n) = (decimal_is_IsNumeral n lt).0.0 in
    omega (arith, ap length e, some)

pub signed_text : (text : List ℕ) → get_or text 0 0 ≡ 43 → IsNotDecimal text
signed_text text plus n lt e =
    let numeral = (decimal_is_IsNumeral n lt).0 in
    let digit = digit_at (decimal n) 0 numeral.1 numeral.0 in
    let first : get_or (decimal n) 0 0 ≡ 43 = ap (λ (t : List ℕ). get_or t 0 0) (sym e) ∙ plus in
    omega (arith, digit.0, digit.1, first)

pub leading_zero : (text : List ℕ) → get_or text 0 0 ≡ 48 → (length text ≡ 1 → ⊥) → IsNotDecimal text
leading_zero text first long zero lt e = long (ap length (e ∙ decimal_digit 0 (omega arith)))
leading_zero text first long (suc n) lt e =
    let above = first_decimal (suc n) (omega arith) lt in
    let is : get_or (decimal (suc n)) 0 0 ≡ 48 = ap (λ (t : List ℕ). get_or t 0 0) (sym e) ∙ first in
    omega (arith, above, is)

pub zero_text : (text : List ℕ) → get_or text 0 0 ≡ 48 → length text ≡ 1 → text ≡ decimal 0
zero_text [] first one = absurd (omega arith)
zero_text (b ∷ []) first one = ap (λ (x : ℕ). x ∷ []) first ∙ sym (decimal_digit 0 (omega arith))
zero_text (a ∷ b ∷ text) first one = absurd (omega arith)

pub parsed : {E : Type 0} (text : List ℕ) (r : Result ℕ E) (n : ℕ) → ParsesUnsigned 64 10 text r → r ≡ Ok n → (get_or text 0 0 ≡ 43 → ⊥) → (get_or text 0 0 ≡ 48 → ⊥) → text ≡ decimal n
parsed text r n h is plus other =
    let at = OkIff-at_ok r (AllDigits 10 text × (0 < length text) × (digits_value 10 text < 2 ^ 64)) (digits_value 10 text) n (parse_plain own 64 text r h plus) is in
    sym (decimal-digits_value own text at.0.0 at.0.1 (λ e. absurd (other e)) at.0.2) ∙ ap decimal (sym at.1)

abbrev failed : {E : Type 0} → E → Result ℕ E
failed e = Err e

pub unparsed : {E : Type 0} (text : List ℕ) (r : Result ℕ E) (d : E) → ParsesUnsigned 64 10 text r → r ≡ Err d → IsNotDecimal text
unparsed text r d h is n lt e =
    let ok : r ≡ Ok n = parse-decimal 64 n text r lt lt e h in
    cc
