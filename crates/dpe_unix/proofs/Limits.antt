-- Numbers that are no limit.
use Rattle.std.proofs.Common.{◌≡◌, ℕ, ◌^◌, ◌<◌, ◌⊎◌, inl, inr, List, sym, ◌∙◌, arith}
use Rattle.std.specs.Fmt.{decimal}
use Rattle.std.proofs.lemmas.Fmt.{decimal_injective}
use Rattle.std.specs.declared.time.Duration.{Duration}
use Rattle.dpe_unix.specs.Limit.{IsLimit}

-- the text of a number that isn't from one to a day is no limit
pub no_limit : (text : List ℕ) (m : ℕ) → text ≡ decimal m → m < 2 ^ 64 → (m ≡ 0 ⊎ (m ≡ 0 → ⊥) × 86400 < m) → (limit : Duration) → IsLimit text limit → ⊥
no_limit text m is fits out limit (n, spelt, seconds) =
    let same : m ≡ n = decimal_injective m n fits (omega (arith, seconds.1)) (sym is ∙ spelt) in
    omega (arith, same, seconds.0, seconds.1, out)
