-- What one step of a connection does to it.
use Rattle.std.specs.Prelude.{ℕ, ◌≤◌, ◌≡◌, List, length}
use mathlib.Core.List.{IsPrefix}
use Rattle.std.specs.Io.KnownBytes.{Consumes, Appends}
use Rattle.dpe_io.specs.Causes.{Rose}
use Rattle.dpe_link.specs.Frames.{frame}
use Rattle.dpe_messages.specs.Replies.{refusal}
use Rattle.dpe_io.specs.Told.{Told, KeepsCounts}
use Rattle.dpe_connections.specs.Endings.{Ending, closed, cut, too_long, read_fault, entropy_fault, full, refusal_fault}
use Rattle.dpe_connections.specs.Served.{journal_full, IsRest, Faults, Cause}

-- the frame of this payload was read
pub record Receives (old new : Told) (payload : List ℕ) : Type 0 where
  pub few : length payload ≤ 4096
  pub read : Consumes old.left new.left (frame payload)
  pub written : new.written ≡ old.written
  pub counts : KeepsCounts old new

-- no whole frame was read, and the connection ends so
pub record ReadsNoFrame (ending : Ending) (old new : Told) : Type 0 where
  pub part : List ℕ
  pub read : Consumes old.left new.left part
  pub is_rest : IsRest ending part
  pub written : new.written ≡ old.written
  pub faults : Faults ending old new
  pub cause : (capacity : ℕ) → Cause ending capacity new

-- no frame was read
abbrev pub ReadsNone : Ending → Told → Told → Type 0
ReadsNone closed old new = ReadsNoFrame closed old new
ReadsNone (cut have) old new = ReadsNoFrame (cut have) old new
ReadsNone (too_long told) old new = ReadsNoFrame (too_long told) old new
ReadsNone read_fault old new = ReadsNoFrame read_fault old new
ReadsNone ending old new = ⊥

-- no command was received: no frame was read, or no word could be drawn for one
abbrev pub ReceivesNone : Ending → Told → Told → Type 0
ReceivesNone entropy_fault old new = (payload : List ℕ) × Receives old new payload
ReceivesNone ending old new = ReadsNone ending old new

-- this text was written
pub record Sends (old new : Told) (text : List ℕ) : Type 0 where
  pub left : new.left ≡ old.left
  pub written : Appends old.written new.written text
  pub counts : KeepsCounts old new

-- a front of the text was written, and a write failed
pub record SendsFront (old new : Told) (text : List ℕ) : Type 0 where
  pub left : new.left ≡ old.left
  pub front : List ℕ
  pub is_front : IsPrefix front text
  pub written : Appends old.written new.written front
  pub reads : new.read_faults ≡ old.read_faults
  pub rose : Rose old.write_faults new.write_faults

-- the refusal of a full journal was written, or a front of it
abbrev pub Refuses : Ending → ℕ → Told → Told → Type 0
Refuses (full told) ticket old new = (told ≡ ticket) × Sends old new (frame (refusal journal_full))
Refuses refusal_fault ticket old new = SendsFront old new (frame (refusal journal_full))
Refuses ending ticket old new = ⊥
