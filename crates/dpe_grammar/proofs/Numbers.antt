-- Numbers up to a limit, in decimal digits.
use Rattle.std.proofs.Common.{◌≡◌, ℕ, ◌^◌, ◌<◌, List, refl, sym, ap, ◌∙◌, arith, subst, Bool, true, false}
use Rattle.std.proofs.lemmas.Bool.Decides.{nat_tests}
use Rattle.std.specs.Fmt.{decimal}
use Rattle.std.specs.Str.Parse.{digits_value}
use Rattle.std.proofs.lemmas.Fmt.{decimal_is_IsNumeral, IsAscii-decimal}
use Rattle.std.specs.Str.{bytes_eq, IsUtf8}
use Rattle.std.specs.Prelude.{Some, None, ◌≤◌}
use Rattle.std.proofs.lemmas.Str.{IsUtf8-from_ascii}
use Rattle.std.proofs.lemmas.Slice.Eq.{bytes_eq-Decides}
use Rattle.dpe_grammar.specs.Values.{number_in}

pub wide : (n : ℕ) → n < 2 ^ 8 → n < 2 ^ 64
wide n lt = omega arith

abbrev pub IsNotDecimal : List ℕ → Type 0
IsNotDecimal text = (n : ℕ) → n < 2 ^ 8 → text ≡ decimal n → ⊥

-- what is written for n is read as n
value_back : (n : ℕ) → n < 2 ^ 64 → digits_value 10 (decimal n) ≡ n
value_back n lt = (decimal_is_IsNumeral n lt).1

pub read_back : (text : List ℕ) (n most : ℕ) → text ≡ decimal n → n < 2 ^ 64 → n ≤ most → number_in most text ≡ Some n
read_back text n most is lt le =
    let value : digits_value 10 text ≡ n = ap (digits_value 10) is ∙ value_back n lt in
    let same : bytes_eq text (decimal (digits_value 10 text)) ≡ true = (bytes_eq-Decides text (decimal (digits_value 10 text))).1 (is ∙ ap decimal (sym value)) in
    grind (arith, nat_tests, value, same)

pub read_beyond : (text : List ℕ) (n most : ℕ) → text ≡ decimal n → n < 2 ^ 64 → most < n → number_in most text ≡ None
read_beyond text n most is lt gt =
    let value : digits_value 10 text ≡ n = ap (digits_value 10) is ∙ value_back n lt in
    let same : bytes_eq text (decimal (digits_value 10 text)) ≡ true = (bytes_eq-Decides text (decimal (digits_value 10 text))).1 (is ∙ ap decimal (sym value)) in
    grind (arith, nat_tests, value, same)

pub read_none : (text : List ℕ) (most : ℕ) → IsNotDecimal text → most < 2 ^ 8 → number_in most text ≡ None
read_none text most not lt = none_of (bytes_eq text (decimal (digits_value 10 text))) refl
  where
    none_of : (b : Bool) → bytes_eq text (decimal (digits_value 10 text)) ≡ b → number_in most text ≡ None
    none_of false e = grind (arith, nat_tests, e)
    none_of true e =
        let same = (bytes_eq-Decides text (decimal (digits_value 10 text))).0 e in
        let far : digits_value 10 text < 2 ^ 8 → ⊥ = λ h. not (digits_value 10 text) h same in
        grind (arith, nat_tests, e, far)

pub not_text : (text : List ℕ) (most : ℕ) → (IsUtf8 text → ⊥) → most < 2 ^ 8 → number_in most text ≡ None
not_text text most not lt = read_none text most (λ n small is. not (subst IsUtf8 (sym is) (IsUtf8-from_ascii (decimal n) (IsAscii-decimal n (wide n small))))) lt
