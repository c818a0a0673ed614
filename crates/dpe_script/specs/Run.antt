-- How the lines of a script end, and what passes over each link until then.
use Rattle.std.specs.Prelude.{◌≡◌, ℕ, ◌<◌, ◌≤◌, List, [], ◌∷◌, ◌++◌, length, take, slice_index_or, Option, Some, None, ◌⊎◌, Result, MatchResult}
use Rattle.std.specs.Io.KnownBytes.{Consumes, Appends, IsAtEnd}
use Rattle.dpe_link.specs.Frames.{frame, told_length}
use Rattle.dpe_link.specs.Reading.{IsNoFrame}
use Rattle.dpe_link.specs.declared.read.FrameFault.{FrameFault}
use Rattle.dpe_link.specs.declared.read.FrameFault.TheVariants.{Cut, TooLong, ReadFault}
use Rattle.dpe_io.specs.Causes.{Rose}
use Rattle.dpe_io.specs.Told.{Told, KeepsCounts}
pub use Rattle.dpe_text.specs.Writing.{AppendsFront}
use Rattle.dpe_grammar.specs.Acts.{Act}
use Rattle.dpe_script.specs.Script.{Line}
use Rattle.dpe_script.specs.Meaning.{Values, Answer, IsAnswerTo, asked_of, answer_payload, sent_payload, said_of, after, sent, got, said}
use Rattle.dpe_script.specs.Answered.{Answers, IsNoAnswer}
use Rattle.dpe_script.specs.declared.run.Cause.{Cause}
use Rattle.dpe_script.specs.declared.run.LineFault.{LineFault}
use Rattle.dpe_script.specs.declared.run.Cause.TheVariants.{Link, Reply, Output}

-- a read or a write of the link failed
abbrev pub LinkFailed : Told → Told → Type 0
LinkFailed old new = Rose old.read_faults new.read_faults ⊎ Rose old.write_faults new.write_faults

-- Why what came for a command is no reply: the link ended before or within a frame, or told a frame that is too long, or
-- gave a whole one whose payload is no answer. These bytes were taken.
pub data IsNoReply (act : Act) (left : Option (List ℕ)) (taken : List ℕ) : Type 0 where
  ended : IsNoFrame taken → IsAtEnd left → IsNoReply act left taken
  too_long : length taken ≡ 4 → 4096 < told_length taken → IsNoReply act left taken
  refused : (payload : List ℕ) → length payload ≤ 4096 → taken ≡ frame payload → IsNoAnswer act payload → IsNoReply act left taken

-- ## One line

module _ (line : Line) (P : Option (List ℕ) → Option (List ℕ) → List ℕ → Type 0) (before now : Values) where
  -- the command was sent and its answer taken, and P of what was printed
  pub record Exchanges (old new : Told) (out_old out_new : Option (List ℕ)) : Type 0 where
    pub answer : Answer
    pub is : IsAnswerTo (asked_of line.act) answer
    pub values : now ≡ after before line.act answer
    pub sent : Appends old.written new.written (frame (sent_payload before line.act))
    pub taken : Consumes old.left new.left (frame (answer_payload answer))
    pub printed : P out_old out_new (said_of line answer)

-- a front of the command was sent, and less than a frame was taken
abbrev pub IsCutOff : Act → Values → Told → Told → Type 0
IsCutOff act before old new =
    AppendsFront old.written new.written (frame (sent_payload before act))
    × ((part : List ℕ) × IsNoFrame part × Consumes old.left new.left part)

-- the command was sent, and what was taken is no reply
abbrev pub IsUnanswered : Act → Values → Told → Told → Type 0
IsUnanswered act before old new =
    Appends old.written new.written (frame (sent_payload before act))
    × ((taken : List ℕ) × IsNoReply act new.left taken × Consumes old.left new.left taken)

-- how a line ends that isn't answered and printed
abbrev pub Fails : Cause → Line → Values → Values → Told → Told → Option (List ℕ) → Option (List ℕ) → Type 0
Fails Link line before now old new out_old out_new = IsCutOff line.act before old new × (out_new ≡ out_old)
Fails Reply line before now old new out_old out_new = IsUnanswered line.act before old new × (out_new ≡ out_old)
Fails Output line before now old new out_old out_new = Exchanges line AppendsFront before now old new out_old out_new

-- the counts that rose: of the link, or of the output
abbrev pub CausedBy : Cause → Told → Told → ℕ → ℕ → Type 0
CausedBy Link old new out_old out_new = LinkFailed old new × (out_new ≡ out_old)
CausedBy Reply old new out_old out_new = KeepsCounts old new × (out_new ≡ out_old)
CausedBy Output old new out_old out_new = KeepsCounts old new × Rose out_old out_new

abbrev pub HasLineCause : {T : Type 0} → Result T Cause → Told → Told → ℕ → ℕ → Type 0
HasLineCause result old new out_old out_new =
    MatchResult result (λ _. KeepsCounts old new × (out_new ≡ out_old)) (λ cause. CausedBy cause old new out_old out_new)

-- ## The parts of a line

-- why no frame came: what the link told is none, or it failed
abbrev pub cause_at : FrameFault → Cause
cause_at (Cut have) = Reply
cause_at (TooLong told) = Reply
cause_at ReadFault = Link

-- what was taken is no frame: a link ended or told too much, or failed
abbrev pub HasNoFrame : Act → Cause → Told → Told → Type 0
HasNoFrame act Link old new = (part : List ℕ) × IsNoFrame part × Consumes old.left new.left part
HasNoFrame act Reply old new = (taken : List ℕ) × IsNoReply act new.left taken × Consumes old.left new.left taken
HasNoFrame act Output old new = ⊥

-- how an exchange ends without a payload
abbrev pub NotExchanged : Act → List ℕ → Cause → Told → Told → Type 0
NotExchanged act payload Link old new =
    AppendsFront old.written new.written (frame payload)
    × ((part : List ℕ) × IsNoFrame part × Consumes old.left new.left part)
NotExchanged act payload Reply old new =
    Appends old.written new.written (frame payload)
    × ((taken : List ℕ) × IsNoReply act new.left taken × Consumes old.left new.left taken)
NotExchanged act payload Output old new = ⊥

module _ (line : Line) (payload : List ℕ) (P : Option (List ℕ) → Option (List ℕ) → List ℕ → Type 0) where
  -- the payload was taken as an answer, and P of what was printed
  pub record Concludes (before now : Values) (out_old out_new : Option (List ℕ)) : Type 0 where
    pub answer : Answer
    pub is : Answers line.act payload answer
    pub values : now ≡ after before line.act answer
    pub printed : P out_old out_new (said_of line answer)

abbrev pub NotConcluded : Cause → Line → List ℕ → Values → Values → Option (List ℕ) → Option (List ℕ) → Type 0
NotConcluded Link line payload before now out_old out_new = ⊥
NotConcluded Reply line payload before now out_old out_new = IsNoAnswer line.act payload × (out_new ≡ out_old)
NotConcluded Output line payload before now out_old out_new =
    Concludes line payload AppendsFront before now out_old out_new

abbrev pub OutputCause : Cause → ℕ → ℕ → Type 0
OutputCause Link old new = ⊥
OutputCause Reply old new = new ≡ old
OutputCause Output old new = Rose old new

abbrev pub HasOutputCause : {T : Type 0} → Result T Cause → ℕ → ℕ → Type 0
HasOutputCause result old new = MatchResult result (λ _. new ≡ old) (λ cause. OutputCause cause old new)

-- ## All lines

-- each answer is one to its line, and there are no more answers than lines
abbrev pub AreAnswers : List Line → List Answer → Type 0
AreAnswers lines [] = Unit {0}
AreAnswers [] (answer ∷ answers) = ⊥
AreAnswers (line ∷ lines) (answer ∷ answers) = IsAnswerTo (asked_of line.act) answer × AreAnswers lines answers

-- the line behind so many answers
abbrev pub next_line : List Line → List Answer → Option Line
next_line [] answers = None
next_line (line ∷ lines) [] = Some line
next_line (line ∷ lines) (answer ∷ answers) = next_line lines answers

-- what the link of this number tells
abbrev pub told_at : {L : Type 0} → (L → Told) → List L → ℕ → L → Told
told_at told links k d = told (slice_index_or links k d)

-- P of each link, by its number
abbrev pub EachLink : {L : Type 0} → (L → Told) → (ℕ → Told → Told → Type 0) → List L → List L → Type 0
EachLink {L} told P old new = (k : ℕ) (d : L) → k < length old → P k (told_at told old k d) (told_at told new k d)

-- all was sent, and just the answers were taken
abbrev pub IsWhole : List Line → List Answer → ℕ → Told → Told → Type 0
IsWhole lines answers link old new =
    Appends old.written new.written (sent lines answers link) × Consumes old.left new.left (got lines answers link)

-- the lines that were answered
abbrev pub answered : List Line → List Answer → List Line
answered lines answers = take (length answers) lines

-- a front was sent, and behind the answers less than a frame was taken
abbrev pub IsFront : List Line → List Answer → ℕ → Told → Told → Type 0
IsFront lines answers link old new =
    AppendsFront old.written new.written (sent lines answers link)
    × ((part : List ℕ) × IsNoFrame part × Consumes old.left new.left (got lines answers link ++ part))

-- that holds of the link of the line; on another all was sent, and just the answers were taken
abbrev pub IsCut : Line → List Line → List Answer → ℕ → Told → Told → Type 0
IsCut line lines answers link old new =
    ((line.link ≡ link → ⊥) × IsWhole lines answers link old new) ⊎ ((line.link ≡ link) × IsFront lines answers link old new)

-- the link of the line failed, and no other
abbrev pub IsFailed : Line → ℕ → Told → Told → Type 0
IsFailed line link old new =
    ((line.link ≡ link → ⊥) × KeepsCounts old new) ⊎ ((line.link ≡ link) × LinkFailed old new)

-- all was sent, and behind the answers nothing was taken, or on the link of the line what is no reply to it
abbrev pub IsRefused : Line → List Line → List Answer → ℕ → Told → Told → Type 0
IsRefused line lines answers link old new =
    Appends old.written new.written (sent lines answers link)
    × ((taken : List ℕ)
    × (((line.link ≡ link → ⊥) × (taken ≡ [])) ⊎ ((line.link ≡ link) × IsNoReply line.act new.left taken))
    × Consumes old.left new.left (got lines answers link ++ taken))

module _ {L : Type 0} (told : L → Told) (lines : List Line) (old new : List L) (out_old out_new : Option (List ℕ)) where
  -- each line was answered, and all was printed
  pub record RunsWhole : Type 0 where
    pub answers : List Answer
    pub each : AreAnswers lines answers
    pub all : length answers ≡ length lines
    pub links : EachLink told (IsWhole lines answers) old new
    pub printed : Appends out_old out_new (said lines answers)

  -- the link of the line of this number failed there
  pub record StopsAtLink (number : ℕ) : Type 0 where
    pub answers : List Answer
    pub line : Line
    pub each : AreAnswers lines answers
    pub next : next_line lines answers ≡ Some line
    pub is : line.number ≡ number
    pub within : line.link < length old
    pub links : EachLink told (IsCut line lines answers) old new
    pub failed : EachLink told (IsFailed line) old new
    pub printed : Appends out_old out_new (said lines answers)

  -- what came for the line of this number is no reply
  pub record StopsAtReply (number : ℕ) : Type 0 where
    pub answers : List Answer
    pub line : Line
    pub each : AreAnswers lines answers
    pub next : next_line lines answers ≡ Some line
    pub is : line.number ≡ number
    pub within : line.link < length old
    pub links : EachLink told (IsRefused line lines answers) old new
    pub printed : Appends out_old out_new (said lines answers)

  -- the output failed within the text of the answers; each link had just the commands that were answered, and their answers
  pub record StopsPrinting : Type 0 where
    pub answers : List Answer
    pub each : AreAnswers lines answers
    pub links : EachLink told (IsWhole (answered lines answers) answers) old new
    pub printed : AppendsFront out_old out_new (said lines answers)

  abbrev pub Stops : Cause → ℕ → Type 0
  Stops Link number = StopsAtLink number
  Stops Reply number = StopsAtReply number
  Stops Output number = StopsPrinting

-- the counts of the links stand as they were
abbrev pub LinksKept : {L : Type 0} → (L → Told) → List L → List L → Type 0
LinksKept told old new = EachLink told (λ k before now. KeepsCounts before now) old new

-- some link failed
abbrev pub SomeLinkFailed : {L : Type 0} → (L → Told) → List L → List L → Type 0
SomeLinkFailed {L} told old new =
    (k : ℕ) × (d : L) × (k < length old) × LinkFailed (told_at told old k d) (told_at told new k d)

-- the counts that rose: of a link, or of the output
abbrev pub RunCausedBy : {L : Type 0} → (L → Told) → Cause → List L → List L → ℕ → ℕ → Type 0
RunCausedBy told Link old new out_old out_new = SomeLinkFailed told old new × (out_new ≡ out_old)
RunCausedBy told Reply old new out_old out_new = LinksKept told old new × (out_new ≡ out_old)
RunCausedBy told Output old new out_old out_new = LinksKept told old new × Rose out_old out_new

abbrev pub HasRunCause : {L T : Type 0} → (L → Told) → Result T LineFault → List L → List L → ℕ → ℕ → Type 0
HasRunCause told result old new out_old out_new =
    MatchResult result (λ _. LinksKept told old new × (out_new ≡ out_old))
    (λ fault. RunCausedBy told fault.cause old new out_old out_new)
