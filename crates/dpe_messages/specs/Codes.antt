-- The codes by which a payload is refused, and those that bound the codes of refusals.
use Rattle.std.specs.Prelude.{ℕ}

abbrev pub invalid_command : ℕ
invalid_command = 2

abbrev pub invalid_argument : ℕ
invalid_argument = 3

abbrev pub seed_locked : ℕ
seed_locked = 5

-- the first of the codes that stand side by side
abbrev pub unsupported : ℕ
unsupported = 16

-- and the last of them
abbrev pub default_taken : ℕ
default_taken = 29
