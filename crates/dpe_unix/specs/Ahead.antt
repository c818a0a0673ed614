-- What contracts see of what was read ahead.
use Rattle.std.specs.Prelude.{◌≡◌, ℕ, min, List, ◌++◌, length, take, IsOk, Result, MatchResult}
use Rattle.std.specs.Io.KnownBytes.{Consumes, Keeps}
use Rattle.std.specs.declared.option.Option.{Option}

-- The reader beneath, and the bytes that were read from it and not yet asked for.
pub record Ahead (R : Type 0) : Type 0 where
  pub inner : R
  pub held : List ℕ

-- as many of the bytes that are held as the room takes move into it, and the reader beneath is left alone
abbrev pub GivesHeld : {R : Type 0} → Ahead R → Ahead R → ℕ → List ℕ → Type 0
GivesHeld old new count room =
    (count ≡ min (length old.held) (length room)) × (old.held ≡ take count room ++ new.held) × (new.inner ≡ old.inner)

-- The reader beneath, and a block of what was read from it: the bytes that were handed out as words, and those behind them
-- that are held.
pub record Block (R : Type 0) : Type 0 where
  pub inner : R
  pub spent : List ℕ
  pub held : List ℕ

-- the bytes in front of what is held are the word, and the reader beneath is left alone
abbrev pub GivesWord : {R : Type 0} → Block R → Block R → List ℕ → Type 0
GivesWord old new word = (old.held ≡ word ++ new.held) × (new.inner ≡ old.inner)

-- a draw takes the word off the front of the known bytes at `Ok`, and nothing at `Err`
abbrev pub DrawsWord : {E : Type 0} → Option (List ℕ) → Option (List ℕ) → Result Unit E → List ℕ → Type 0
DrawsWord old new result word = MatchResult result (λ _. Consumes old new word) (λ _. Keeps old new)
