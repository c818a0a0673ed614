-- The lengths of what is printed.
use Rattle.std.proofs.Common.{◌≡◌, ℕ, ◌+◌, ◌*◌, ◌≤◌, List, ◌++◌, length, Option, Some, None, ap, ◌∙◌, arith}
use Rattle.std.specs.Prelude.{IfSome}
use Rattle.std.proofs.lemmas.List.{length-append}
use Rattle.hex.specs.Hex.{encode_lower, lower_digits}
use Rattle.hex.proofs.HexLemmas.{length-encode_with}
use Rattle.dpe_script.specs.Meaning.{shown}

shown_few : (bytes : Option (List ℕ)) (most : ℕ) → IfSome bytes (λ b. length b ≤ most) → length (shown bytes) ≤ 1 + 2 * most
shown_few None most few = omega arith
shown_few (Some b) most few = let long : length (encode_lower b) ≡ 2 * length b = length-encode_with lower_digits b in omega (arith, long, few)

-- a byte string behind a text
pub grown_few : (old new : List ℕ) (bytes : Option (List ℕ)) (most : ℕ) → new ≡ old ++ shown bytes → IfSome bytes (λ b. length b ≤ most) → length new ≤ length old + 1 + 2 * most
grown_few old new bytes most is few =
    let long : length new ≡ length old + length (shown bytes) = ap length is ∙ length-append old (shown bytes) in
    let short = shown_few bytes most few in
    omega (arith, long, short)
