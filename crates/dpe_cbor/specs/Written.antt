-- What a writer has written.
use Rattle.std.specs.Prelude.{◌≡◌, ℕ, ◌+◌, ◌<◌, ◌≤◌, List, ◌++◌, length, take, drop}
use Rattle.dpe_cbor.specs.declared.writer.Writer.{Writer}

-- the encodings written so far
abbrev pub written : Writer → List ℕ
written w = take w.len w.room.now

-- the writer has gone on by the bytes b, in the same room; the room behind them is as it was
pub record Appends (old new : Writer) (b : List ℕ) : Type 0 where
  pub written_is : written new ≡ written old ++ b
  pub len_is : new.len ≡ old.len + length b
  pub same_room : new.room.ghost_name ≡ old.room.ghost_name
  pub room_len : length new.room.now ≡ length old.room.now
  pub beyond : drop new.len new.room.now ≡ drop new.len old.room.now

-- the bytes b don't fit in what is left of the room
abbrev pub HasNoRoom : Writer → List ℕ → Type 0
HasNoRoom w b = length w.room.now < w.len + length b

-- the bytes b fit in what is left of the room
abbrev pub Fits : Writer → List ℕ → Type 0
Fits w b = w.len + length b ≤ length w.room.now
