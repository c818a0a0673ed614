-- Stored entries as contracts see them.
use Rattle.std.specs.Prelude.{ℕ, List}
use Rattle.dpe_model.specs.History as history

-- What a caller sent: over which of its connections, its number on that connection, from 0, its locality, the random bytes,
-- the payload.
pub record Sent : Type 0 where
  pub connection : ℕ
  pub index : ℕ
  pub locality : ℕ
  pub random : List ℕ
  pub payload : List ℕ

-- the entry of a history that a caller, what it sent and the reply to it are
abbrev pub entry_from : ℕ → Sent → List ℕ → history.Entry
entry_from caller sent reply = record {
  caller = caller;
  connection = sent.connection;
  index = sent.index;
  locality = sent.locality;
  random = sent.random;
  payload = sent.payload;
  reply = reply;
}
