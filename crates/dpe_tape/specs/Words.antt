-- The program's words.
use Rattle.std.specs.Prelude.{◌≡◌, ℕ, ◌^◌, ◌<◌, ◌≤◌, List, [], ◌∷◌, map, codes, Ok}
use Rattle.std.specs.Fmt.{decimal}
use Rattle.std.specs.Borrow.{Bor}
use Rattle.hex.specs.Hex.{decode_sized}
use Rattle.dpe_tape.specs.declared.words.Request.{Request}
use Rattle.dpe_tape.specs.declared.words.Request.TheVariants.{Run, Load}

abbrev pub texts : List (Bor (List ℕ)) → List (List ℕ)
texts words = map (λ word. word.now) words

-- `run`, the seed in 64 hexadecimal digits, and the first serial in decimal digits
pub record IsRun (words : List (List ℕ)) (seed : List ℕ) (first : ℕ) : Type 0 where
  pub digits : List ℕ
  pub form : words ≡ codes "run" ∷ digits ∷ decimal first ∷ []
  pub decoded : decode_sized digits 32 ≡ Ok seed
  pub below : first < 2 ^ 64

-- the most commands of a load
abbrev pub command_limit : ℕ
command_limit = 65536

-- `load`, the number that it begins with, and its commands, both in decimal digits
pub record IsLoad (words : List (List ℕ)) (number commands : ℕ) : Type 0 where
  pub form : words ≡ codes "load" ∷ decimal number ∷ decimal commands ∷ []
  pub below : number < 2 ^ 64
  pub some : 1 ≤ commands
  pub most : commands ≤ command_limit

-- the words ask for this
abbrev pub AskFor : List (List ℕ) → Request → Type 0
AskFor words (Run run) = IsRun words run.seed run.first
AskFor words (Load load) = IsLoad words load.number load.commands

-- the words are of neither form
pub record AreFaulty (words : List (List ℕ)) : Type 0 where
  pub no_run : (seed : List ℕ) (first : ℕ) → IsRun words seed first → ⊥
  pub no_load : (number commands : ℕ) → IsLoad words number commands → ⊥
