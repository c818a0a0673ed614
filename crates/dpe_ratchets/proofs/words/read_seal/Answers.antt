use Rattle.std.proofs.Common.{◌≡◌, ℕ, List, [], get_or, ap, sym, ◌∙◌, arith}
use Rattle.std.proofs.lemmas.Fmt.{decimal_injective}
use Rattle.dpe_ratchets.proofs.words.read_seal.Goals as goal

pub returns-in_err-version-clause-none : goal.returns-in_err-version-clause-none
returns-in_err-version-clause-none c =
    rw c.from_residual-in_err-version.ensures (λ asked is.
    let own = ap (λ (ws : List (List ℕ)). get_or ws 2 []) is.form in
    let version = ap (λ (ws : List (List ℕ)). get_or ws 3 []) is.form in
    let found = c.in_ok-own.ensures.found in
    let same : asked.own ≡ c.in_ok-own.own = decimal_injective asked.own c.in_ok-own.own (omega (arith, is.own)) (omega (arith, found.1)) (sym own ∙ found.0) in
    c.in_err-version.ensures.none asked.version version (omega (arith, is.version)))
