-- The ending of a connection, as it is seen from the outside.
use Rattle.std.specs.Prelude.{Bool, nat_lt, ◌==◌, if◌then◌else◌, ℕ, ◌-◌, ◌≡◌, List, [], ◌∷◌, length, Option, None}
use Rattle.std.specs.Prelude.{IsSome}
use Rattle.std.specs.Str.{bytes_eq}
use Rattle.dpe_io.specs.Causes.{Rose}
use Rattle.dpe_link.specs.Frames.{told_length}
use Rattle.dpe_model.specs.History.{Entry}
use Rattle.dpe_io.specs.Told.{Told}
use Rattle.dpe_connections.specs.Endings.{Ending, closed, cut, too_long, read_fault, entropy_fault, full, reply_fault}
use Rattle.dpe_connections.specs.Endings.{refusal_fault, HasEntropyCause, KeepsTicket}
use Rattle.dpe_connections.specs.Served.{output, Served}

-- how the source ended, by what stands behind the last whole frame
abbrev pub rest_ending : List ℕ → Ending
rest_ending [] = closed
rest_ending (b ∷ bytes) =
    if nat_lt (length (b ∷ bytes)) 4 then cut (length (b ∷ bytes))
    else (if nat_lt 4096 (told_length (b ∷ bytes)) then too_long (told_length (b ∷ bytes))
    else cut (length (b ∷ bytes)))

-- The ending of a connection that began without a fault: by the number of frames that have no entry, its counts, the rest
-- of the bytes read, and whether the bytes written end with the refusal. The ticket of a full journal isn't seen.
abbrev pub observed : ℕ → Told → List ℕ → Bool → Ending
observed unanswered after rest refused =
    if nat_lt 0 after.read_faults then read_fault
    else (if nat_lt 0 after.write_faults then (if unanswered == 0 then reply_fault else refusal_fault)
    else (if unanswered == 0 then rest_ending rest
    else (if refused then full 0 else entropy_fault)))

abbrev pub without_ticket : Ending → Ending
without_ticket (full ticket) = full 0
without_ticket ending = ending

abbrev pub HasNoFault : Told → Type 0
HasNoFault conn = (conn.read_faults ≡ 0) × (conn.write_faults ≡ 0)

-- it tells the bytes left to read and those that were written
abbrev pub Tells : Told → Type 0
Tells conn = IsSome conn.left × IsSome conn.written

-- A served connection ended as is observed.
abbrev pub EndingIsObserved : Type 0
EndingIsObserved =
    (capacity locality : ℕ) (entries : List Entry) (before after : Told) (ending : Ending) → HasNoFault before →
    (s : Served capacity locality entries before after ending) →
    without_ticket ending ≡ observed (length s.payloads - length entries) after s.rest (bytes_eq s.wrote (output entries 1))

-- A connection that tells its bytes was served with one ending.
abbrev pub OneEnding : Type 0
OneEnding =
    (capacity locality : ℕ) (entries : List Entry) (before after : Told) (ending other : Ending) →
    Tells before → HasNoFault before →
    Served capacity locality entries before after ending → Served capacity locality entries before after other →
    without_ticket ending ≡ without_ticket other

-- A connection whose bytes ended behind a whole frame ended as closed, where no count rose and the pass met no full
-- journal.
abbrev pub ClosedWhereNothingFailed : Type 0
ClosedWhereNothingFailed =
    (capacity locality : ℕ) (entries : List Entry) (before after : Told) (ending : Ending) →
    (drawn_from drawn_to : ℕ) (old new : Option ℕ) → (s : Served capacity locality entries before after ending) →
    HasEntropyCause ending drawn_from drawn_to → KeepsTicket ending old new → s.rest ≡ [] →
    ¬ Rose before.read_faults after.read_faults → ¬ Rose before.write_faults after.write_faults →
    ¬ Rose drawn_from drawn_to → new ≡ None → ending ≡ closed
