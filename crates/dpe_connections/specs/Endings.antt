-- How a connection ends.
use Rattle.std.specs.Prelude.{ℕ, ◌≡◌, Bool, true, false, Option, Some, None, IsSome, if◌then◌else◌}
use Rattle.dpe_io.specs.Causes.{Rose}
use Rattle.dpe_connections.specs.declared.connection.End.{End}
use Rattle.dpe_connections.specs.declared.connection.End.TheVariants as ends

-- Of a connection's ends, a write fault is of two kinds: of a reply, and of the refusal with code 26, journal full.
pub data Ending : Type 0 where
  closed : Ending
  cut : ℕ → Ending
  too_long : ℕ → Ending
  read_fault : Ending
  entropy_fault : Ending
  full : ℕ → Ending
  reply_fault : Ending
  refusal_fault : Ending

-- which write fault it was, by the ticket at or over the capacity that the pass keeps: none, or some
abbrev pub write_fault : Option ℕ → Ending
write_fault None = reply_fault
write_fault (Some ticket) = refusal_fault

-- the ending of a connection whose pass keeps this ticket
abbrev pub ending_of : End → Option ℕ → Ending
ending_of ends.Closed kept = closed
ending_of (ends.Full ticket) kept = full ticket
ending_of (ends.Cut have) kept = cut have
ending_of (ends.TooLong length) kept = too_long length
ending_of ends.ReadFault kept = read_fault
ending_of ends.WriteFault kept = write_fault kept
ending_of ends.EntropyFault kept = entropy_fault

-- how many frames were read beyond those that have an entry
abbrev pub unanswered : Ending → ℕ
unanswered entropy_fault = 1
unanswered (full ticket) = 1
unanswered refusal_fault = 1
unanswered ending = 0

-- the connection was told, at least in part, that the journal is full
abbrev pub is_told_full : Ending → Bool
is_told_full (full ticket) = true
is_told_full refusal_fault = true
is_told_full ending = false

-- it ended with Full
abbrev pub is_full : Ending → Bool
is_full (full ticket) = true
is_full ending = false

-- it ended with anything but Closed and Full
abbrev pub is_cut : Ending → Bool
is_cut closed = false
is_cut (full ticket) = false
is_cut ending = true

-- it ended since no random bytes could be drawn
abbrev pub is_entropy_fault : Ending → Bool
is_entropy_fault entropy_fault = true
is_entropy_fault ending = false

-- the count of the entropy rose where that was the end, and is else as before
abbrev pub HasEntropyCause : Ending → ℕ → ℕ → Type 0
HasEntropyCause entropy_fault before now = Rose before now
HasEntropyCause ending before now = now ≡ before

-- how many words were drawn for commands that have no entry
abbrev pub words_more : Ending → ℕ
words_more ending = if is_told_full ending then 1 else 0

-- The ticket that the pass keeps, which it met at or over the capacity: a new one only where the connection was told.
abbrev pub KeepsTicket : Ending → Option ℕ → Option ℕ → Type 0
KeepsTicket (full ticket) old new = new ≡ Some ticket
KeepsTicket refusal_fault old new = IsSome new
KeepsTicket ending old new = new ≡ old
