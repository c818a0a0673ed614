-- Byte strings in hexadecimal digits.
use Rattle.std.proofs.Common.{◌≡◌, ℕ, ◌*◌, ◌/◌, ◌<◌, ◌≤◌, List, [], length, None, Result, Ok, Err, refl, arith, ◌⊎◌, inl, inr}
use Rattle.std.specs.Result.{result_ok}
use Rattle.std.specs.Option.{option_and_then}
use Rattle.std.proofs.lemmas.Bool.Decides.{nat_tests}
use Rattle.hex.specs.Hex.{decode_of}
use Rattle.hex.specs.declared.error.FromHexError.{FromHexError}
use Rattle.hex.proofs.HexLemmas.{decode_of-ok}
use Rattle.std.specs.Option.{unwrap_or}
use Rattle.hex.specs.Hex.{decode_pairs}
use Rattle.std.proofs.Common.{subst, replicate}
use Rattle.dpe_grammar.specs.declared.value.Value.{Value}
use Rattle.dpe_grammar.specs.declared.value.Value.TheVariants.{Repeated}
use Rattle.dpe_grammar.specs.Values.{sized, spelt_by, value_of}

-- digits for too few bytes or too many
pub out_of_range : (text : List ℕ) (least most : ℕ) (r : Result (List ℕ) FromHexError) → decode_of text ≡ r → (length text / 2 < least) ⊎ (most < length text / 2)
    → option_and_then (sized least most) (result_ok r) ≡ None
out_of_range text least most (Err e) is far = refl
out_of_range text least most (Ok bytes) is far =
    let ok = decode_of-ok text bytes is in
    let long : length text ≡ 2 * length bytes = ok.2 in
    elim far [ inl few ↦ grind (arith, nat_tests, long, few) | inr many ↦ grind (arith, nat_tests, long, many) ]

-- digits that spell fewer bytes than half their number spell none
pub too_many : (text : List ℕ) (r : Result (List ℕ) FromHexError) → decode_of text ≡ r → length (unwrap_or (result_ok r) []) < length text / 2 → unwrap_or (result_ok r) [] ≡ []
too_many text (Err e) is few = refl
too_many text (Ok bytes) is few = let ok = decode_of-ok text bytes is in let long : length text ≡ 2 * length bytes = ok.2 in absurd (omega (arith, long, few))

-- no digits spell no bytes
pub spelt_none : spelt_by [] ≡ []
unfolding decode_pairs
spelt_none = refl

-- a room for the bytes of a star and two digits has 64 places
pub room_for : (v : Value) (byte n : ℕ) → v ≡ Repeated byte → length (value_of v) ≤ n → 64 ≤ n
room_for v byte n is fits = let h : length (replicate 64 byte) ≤ n = subst (λ (u : Value). length (value_of u) ≤ n) is fits in h
