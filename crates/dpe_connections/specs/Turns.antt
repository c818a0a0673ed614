-- What one call of a pass does, and what goes back over the connection.
use Rattle.std.specs.Prelude.{ℕ, ◌<◌, ◌≤◌, ◌≡◌, List, [], ◌∷◌, Some, None}
use Rattle.dpe_desk.specs.Passes.{own_name}
use Rattle.dpe_journal.specs.Entries.{Sent, entry_from}
use Rattle.dpe_link.specs.Frames.{frame}
use Rattle.dpe_messages.specs.Replies.{refusal}
use Rattle.dpe_io.specs.Told.{Told}
use Rattle.dpe_connections.specs.Endings.{Ending, full, reply_fault, refusal_fault}
use Rattle.dpe_connections.specs.Passes.{Seat, MadeJust}
use Rattle.dpe_connections.specs.Served.{journal_full}
use Rattle.dpe_connections.specs.Steps.{Sends, SendsFront}

-- the pass made this call, which had this reply, and had met no full journal
pub record Makes (v w : Seat) (sent : Sent) (reply : List ℕ) : Type 0 where
  pub made : MadeJust v (entry_from (own_name v) sent reply ∷ []) w
  pub not_full : (v.full ≡ None) × (w.full ≡ None)

-- the call was made, and the frame of its reply was written
pub record Answers (v w : Seat) (sent : Sent) (old new : Told) : Type 0 where
  pub reply : List ℕ
  pub makes : Makes v w sent reply
  pub sends : Sends old new (frame reply)

-- the call was made, and a front of the frame of its reply was written
pub record AnswersPart (v w : Seat) (sent : Sent) (old new : Told) : Type 0 where
  pub reply : List ℕ
  pub makes : Makes v w sent reply
  pub sends : SendsFront old new (frame reply)

-- the call wasn't made: the ticket is at least the capacity
pub record MeetsFull (capacity ticket : ℕ) (v w : Seat) : Type 0 where
  pub over : capacity ≤ ticket
  pub kept : w.full ≡ Some ticket
  pub made : w.made ≡ v.made

-- the command got no whole reply of its own, and the connection ends so
abbrev pub AnswersNone : Ending → ℕ → Seat → Seat → Sent → Told → Told → Type 0
AnswersNone (full ticket) capacity v w sent old new =
    MeetsFull capacity ticket v w × Sends old new (frame (refusal journal_full))
AnswersNone reply_fault capacity v w sent old new = AnswersPart v w sent old new
AnswersNone refusal_fault capacity v w sent old new =
    (ticket : ℕ) × MeetsFull capacity ticket v w × SendsFront old new (frame (refusal journal_full))
AnswersNone ending capacity v w sent old new = ⊥

-- one entry more was told, and there are at most as many as the capacity
abbrev pub CountsMore : ℕ → Seat → Seat → Type 0
CountsMore capacity v w = (v.known < w.known) × (w.known ≤ capacity)
