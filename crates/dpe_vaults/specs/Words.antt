-- The program's words.
use Rattle.std.specs.Prelude.{◌≡◌, ℕ, ◌≤◌, List, [], ◌∷◌, map}
use Rattle.std.specs.Fmt.{decimal}
use Rattle.std.specs.Borrow.{Bor}

abbrev pub texts : List (Bor (List ℕ)) → List (List ℕ)
texts words = map (λ word. word.now) words

-- the most entries of a vault
abbrev pub entry_limit : ℕ
entry_limit = 4096

-- one word, the most entries, 1 to 4,096, in decimal digits
pub record AskFor (words : List (List ℕ)) (entries : ℕ) : Type 0 where
  pub form : words ≡ decimal entries ∷ []
  pub some : 1 ≤ entries
  pub most : entries ≤ entry_limit

-- the words are of another form
abbrev pub AreFaulty : List (List ℕ) → Type 0
AreFaulty words = (entries : ℕ) → AskFor words entries → ⊥
