-- What an audit is to do: check a history; tell what lives after it; list its records; or print a connection's replies.
use Rattle.std.specs.Prelude.{ℕ}

-- a connection is a caller's, with its number
pub data Mode : Type 0 where
  check : Mode
  live : Mode
  list : Mode
  connection : ℕ → ℕ → Mode

-- the fact is asked for where replies are compared with those that a seed gives
abbrev pub Judged : Mode → Type 0 → Type 0
Judged check fact = fact
Judged live fact = fact
Judged list fact = Unit {0}
Judged (connection caller number) fact = Unit {0}

-- replies are compared
abbrev pub Judges : Mode → Type 0
Judges check = Unit {0}
Judges live = Unit {0}
Judges list = ⊥
Judges (connection caller number) = ⊥
