-- The statuses of the program.
use Rattle.std.specs.Prelude.{◌≡◌, ℕ, List, ◌⊎◌}
use Rattle.dpe_tape.specs.Words.{IsRun, IsLoad}

abbrev pub IsStatus : ℕ → Type 0
IsStatus n = (n ≡ 0) ⊎ ((n ≡ 2) ⊎ ((n ≡ 3) ⊎ ((n ≡ 4) ⊎ ((n ≡ 7) ⊎ ((n ≡ 9) ⊎ (n ≡ 10))))))

-- the words ask for a run, and it has P
pub record ForRun (words : List (List ℕ)) (P : List ℕ → ℕ → Type 0) : Type 0 where
  pub seed : List ℕ
  pub first : ℕ
  pub asked : IsRun words seed first
  pub holds : P seed first

-- the words ask for a load, and it has P
pub record ForLoad (words : List (List ℕ)) (P : ℕ → ℕ → Type 0) : Type 0 where
  pub number : ℕ
  pub commands : ℕ
  pub asked : IsLoad words number commands
  pub holds : P number commands

-- the words ask for a run that has P or a load that has Q
abbrev pub ForEither : List (List ℕ) → (List ℕ → ℕ → Type 0) → (ℕ → ℕ → Type 0) → Type 0
ForEither words P Q = ForRun words P ⊎ ForLoad words Q

abbrev pub IsLoadStatus : ℕ → Type 0
IsLoadStatus n = (n ≡ 0) ⊎ ((n ≡ 3) ⊎ (n ≡ 7))
