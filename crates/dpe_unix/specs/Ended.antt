-- How a program ends.
use Rattle.std.specs.Prelude.{◌≡◌, ◌≢◌, ◌⊎◌, ℕ, List}
use Rattle.std.specs.Fn.{Once, FnOnceReturnsAt}
use Rattle.dpe_io.specs.Causes.{Rose}
use denote.Ref.{Bor}

-- the call may give this status, at some words
abbrev pub Answered : {F T : Type 0} → Once F (Bor (List T) × Unit {0}) ℕ → F → ℕ → Type 0
Answered {F} {T} g f status = (words : List T) × FnOnceReturnsAt g f words status

-- with what the call gave, or without it: with 2 for a word that isn't UTF-8, with 3 for want of memory
abbrev pub Ends : {F T : Type 0} → Once F (Bor (List T) × Unit {0}) ℕ → F → ℕ → Type 0
Ends g f status = Answered g f status ⊎ (status ≡ 2) ⊎ (status ≡ 3)

-- another status than 0 is told, where the count of faults of what it is told to didn't rise
abbrev pub IsTold : ℕ → ℕ → ℕ → Type 0 → Type 0
IsTold before after status told = status ≢ 0 → (Rose before after → ⊥) → told
