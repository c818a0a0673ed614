-- A served connection: the entries of a history that answer it, the bytes that passed over it, and how it ended.
use Rattle.std.specs.Prelude.{ℕ, ◌+◌, ◌-◌, ◌<◌, ◌≤◌, ◌≡◌, List, [], ◌∷◌, ◌++◌, length, take, flat_map, replicate}
use mathlib.Core.List.{IsPrefix}
use Rattle.std.specs.Io.KnownBytes.{Consumes, Appends, IsAtEnd}
use Rattle.dpe_io.specs.Causes.{Rose}
use Rattle.dpe_link.specs.Frames.{frame, Frames, told_length, IsUnfinished}
use Rattle.dpe_link.specs.Reading.{IsNoFrame}
use Rattle.dpe_messages.specs.Replies.{refusal}
use Rattle.dpe_model.specs.History.{Entry}
use Rattle.dpe_io.specs.Told.{Told, KeepsCounts}
use Rattle.dpe_connections.specs.Endings.{Ending, closed, cut, too_long, read_fault, full, reply_fault, refusal_fault}
use Rattle.dpe_connections.specs.Endings.{unanswered}

-- the code of the refusal that a full journal gives
abbrev pub journal_full : ℕ
journal_full = 26

-- the frames of the replies of the entries, and then so many frames of that refusal
abbrev pub output : List Entry → ℕ → List ℕ
output entries refusals =
    flat_map (λ e. frame e.reply) entries ++ flat_map frame (replicate refusals (refusal journal_full))

-- The entries answer the payloads from the front on, at this locality, with indices that rise by one.
abbrev pub AnswerInOrder : ℕ → ℕ → List Entry → List (List ℕ) → Type 0
AnswerInOrder locality index [] payloads = Unit {0}
AnswerInOrder locality index (e ∷ es) [] = ⊥
AnswerInOrder locality index (e ∷ es) (p ∷ ps) =
    (e.index ≡ index) × (e.locality ≡ locality) × (e.payload ≡ p) × AnswerInOrder locality (index + 1) es ps

-- what is left of the bytes that were read, behind the last whole frame
abbrev pub IsRest : Ending → List ℕ → Type 0
IsRest (cut have) rest = IsUnfinished rest × (length rest ≡ have)
IsRest (too_long told) rest = (length rest ≡ 4) × (told_length rest ≡ told) × (4096 < told)
IsRest read_fault rest = IsNoFrame rest
IsRest ending rest = rest ≡ []

-- Which of the two counts rose: that of a call that failed. The other is as before.
abbrev pub Faults : Ending → Told → Told → Type 0
Faults read_fault before after =
    Rose before.read_faults after.read_faults × (after.write_faults ≡ before.write_faults)
Faults reply_fault before after =
    (after.read_faults ≡ before.read_faults) × Rose before.write_faults after.write_faults
Faults refusal_fault before after =
    (after.read_faults ≡ before.read_faults) × Rose before.write_faults after.write_faults
Faults ending before after = KeepsCounts before after

-- what else is behind the end: the source is at its end, or the ticket is at least the capacity
abbrev pub Cause : Ending → ℕ → Told → Type 0
Cause closed capacity after = IsAtEnd after.left
Cause (cut have) capacity after = IsAtEnd after.left
Cause (full ticket) capacity after = capacity ≤ ticket
Cause ending capacity after = Unit {0}

-- all entries but the last
abbrev pub all_but_last : List Entry → List Entry
all_but_last entries = take (length entries - 1) entries

-- the bytes written
abbrev pub Writes : Ending → List Entry → List ℕ → Type 0
Writes (full ticket) entries wrote = wrote ≡ output entries 1
Writes reply_fault entries wrote =
    (0 < length entries) × IsPrefix (output (all_but_last entries) 0) wrote × IsPrefix wrote (output entries 0)
Writes refusal_fault entries wrote = IsPrefix (output entries 0) wrote × IsPrefix wrote (output entries 1)
Writes ending entries wrote = wrote ≡ output entries 0

-- A connection at this locality was answered by these entries, from one state of it to the other, and ended so.
pub record Served (capacity locality : ℕ) (entries : List Entry) (before after : Told) (ending : Ending) : Type 0 where
  pub taken : List ℕ
  pub wrote : List ℕ
  pub payloads : List (List ℕ)
  pub rest : List ℕ
  pub read : Consumes before.left after.left taken
  pub written : Appends before.written after.written wrote
  pub framed : Frames taken payloads rest
  pub answered : AnswerInOrder locality 0 entries payloads
  pub number : length payloads ≡ length entries + unanswered ending
  pub is_rest : IsRest ending rest
  pub faults : Faults ending before after
  pub writes : Writes ending entries wrote
  pub cause : Cause ending capacity after
