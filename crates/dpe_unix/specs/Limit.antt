-- The limit for silent connections that a program takes from the environment.
use Rattle.std.specs.Prelude.{◌≡◌, ℕ, ◌*◌, ◌≤◌, List, ⊤, codes}
use Rattle.std.specs.Fmt.{decimal}
use Rattle.std.specs.Duration.{as_nanos}
use Rattle.std.specs.declared.time.Duration.{Duration}
use Rattle.dpe_io.specs.Causes.{Rose}
use Rattle.dpe_unix.specs.declared.limit.Setting.{Setting}
use Rattle.dpe_unix.specs.declared.limit.Setting.TheVariants.{Absent, Faulty, Limit}

-- n seconds, from one to a day
abbrev pub IsTime : ℕ → Duration → Type 0
IsTime n limit = (1 ≤ n) × (n ≤ 86400) × (as_nanos limit ≡ n * 1_000_000_000)

-- whole seconds, from one to a day
abbrev pub IsSeconds : Duration → Type 0
IsSeconds limit = (n : ℕ) × IsTime n limit

-- the text is the decimal number of these seconds
abbrev pub IsLimit : List ℕ → Duration → Type 0
IsLimit text limit = (n : ℕ) × (text ≡ decimal n) × IsTime n limit

-- what is said of a faulty value
abbrev pub faulty_limit : List ℕ
faulty_limit =
    codes "DPE_IDLE_SECONDS isn't a number from 1 to 86400, so a silent connection may wait without end: mend it or unset it"

-- the limit of a value is the one that it spells
abbrev pub OfValue : List ℕ → Setting → Type 0
OfValue value Absent = ⊥
OfValue value Faulty = ⊤
OfValue value (Limit limit) = IsLimit value limit

-- a limit has whole seconds
abbrev pub HasSeconds : Setting → Type 0
HasSeconds Absent = ⊤
HasSeconds Faulty = ⊤
HasSeconds (Limit limit) = IsSeconds limit

-- it is told, where the count of faults of what it is told to didn't rise
abbrev pub IsToldFaulty : ℕ → ℕ → Type 0 → Type 0
IsToldFaulty before after told = (Rose before after → ⊥) → told
