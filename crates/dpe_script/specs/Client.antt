-- The client's top call: its words, what it opens and hands back, and how it ends.
use Rattle.std.specs.Prelude.{◌≡◌, ℕ, ◌+◌, ◌-◌, ◌<◌, ◌≤◌, Bool, ◌&&◌, nat_le, nat_lt, List, [], ◌∷◌, ◌++◌, length, codes, Option, Some, ◌⊎◌, Result, MatchResult}
use Rattle.std.specs.List.{list_all}
use Rattle.std.specs.Fmt.{decimal}
use Rattle.std.specs.Io.KnownBytes.{Consumes, Appends, IsAtEnd}
use Rattle.dpe_io.specs.Causes.{Rose}
use Rattle.dpe_io.specs.Told.{Kind, Opens, OpensNone, Returns, Placed}
use Rattle.dpe_link.specs.Reading.{TakesPart}
use Rattle.dpe_script.specs.Script.{Line, Script, right, bad_line, script_of, max_script}
use Rattle.dpe_script.specs.Meaning.{Answer, got}
use Rattle.dpe_io.specs.Told.{Told}
use Rattle.dpe_script.specs.Run.{told_at, AppendsFront, AreAnswers, RunsWhole, StopsAtLink, StopsAtReply, StopsPrinting}
use Rattle.dpe_script.specs.declared.run.Cause.TheVariants.{Link, Reply, Output}
use Rattle.dpe_script.specs.declared.run.LineFault.{LineFault}
use Rattle.dpe_script.specs.declared.run.Cause.{Cause}
use Rattle.dpe_script.specs.declared.end.End.{End}
use Rattle.dpe_script.specs.declared.end.End.TheVariants.{Done, NoMemory, NoScript, BadScript, LinkFault, BadReply, OutputFault}

-- ## Words

-- a path that isn't empty
abbrev pub is_path : List ℕ → Bool
is_path word = nat_lt 0 (length word)

-- a script and 1 to 8 links, all paths that aren't empty
abbrev pub are_right : List (List ℕ) → Bool
are_right words = nat_le 2 (length words) && (nat_le (length words) 9 && list_all is_path words)

-- the number of links that the words name
abbrev pub links_in : List (List ℕ) → ℕ
links_in words = length words - 1

-- ## What is printed of a fault

abbrev pub bad_line_said : ℕ → List ℕ
bad_line_said number = codes "line " ++ decimal number ++ codes "\n"

abbrev pub fault_said : ℕ → List ℕ → List ℕ
fault_said number what = codes "line " ++ decimal number ++ codes " " ++ what ++ codes "\n"

-- ## Counts of a kind of objects

-- an opening failed, or an object that was handed back had failed
abbrev pub KindFailed : {T : Type 0} → Kind T → Kind T → Type 0
KindFailed old new = Rose old.failed new.failed ⊎ Rose old.faults new.faults

abbrev pub KindKept : {T : Type 0} → Kind T → Kind T → Type 0
KindKept old new = (new.failed ≡ old.failed) × (new.faults ≡ old.faults)

abbrev pub HasKindCause : {T U E : Type 0} → Result U E → Kind T → Kind T → Type 0
HasKindCause result old new = MatchResult result (λ _. KindKept old new) (λ _. KindFailed old new)

-- ## The script

-- P of the lines of a script that is right
abbrev pub IfRight : Script → (List Line → Type 0) → Type 0
IfRight (right lines) P = P lines
IfRight (bad_line number) P = ⊥

-- P of the first bad line of one that isn't
abbrev pub IfBad : Script → (ℕ → Type 0) → Type 0
IfBad (right lines) P = ⊥
IfBad (bad_line number) P = P number

module _ {F : Type 0} (left : F → Option (List ℕ)) (faults : F → ℕ) where
  -- A file was opened and handed back, and this text was taken of it: all of it, or as much as there is room for.
  pub record Loads (room : ℕ) (old new : Kind F) (text : List ℕ) : Type 0 where
    pub opened : F
    pub closed : F
    pub mid : Kind F
    pub opens : Opens old opened mid
    pub returns : Returns mid (faults closed) closed new
    pub read : Consumes (left opened) (left closed) text
    pub few : length text ≤ room
    pub whole : length text < room → IsAtEnd (left closed)

  -- A file was opened, failed before so much was taken of it, and was handed back.
  pub record LoadsPart (room : ℕ) (old new : Kind F) : Type 0 where
    pub opened : F
    pub closed : F
    pub mid : Kind F
    pub opens : Opens old opened mid
    pub returns : Returns mid (faults closed) closed new
    pub part : TakesPart (left opened) (left closed) room
    pub failed : Rose (faults opened) (faults closed)

  -- no file could be opened, or none read
  abbrev pub LoadsNone : ℕ → Kind F → Kind F → Type 0
  LoadsNone room old new = OpensNone old new ⊎ LoadsPart room old new

  -- The script that the words name was read, and has P for the number of links.
  pub record ForScript (words : List (List ℕ)) (old new : Kind F) (P : ℕ → Script → Type 0) : Type 0 where
    pub text : List ℕ
    pub loads : Loads (max_script + 1) old new text
    pub holds : P (links_in words) (script_of (links_in words) text)

  -- a right script was read, and has P, of the number of links and of its lines
  abbrev pub ForLines : List (List ℕ) → Kind F → Kind F → (ℕ → List Line → Type 0) → Type 0
  ForLines words old new P = ForScript words old new (λ count script. IfRight script (λ lines. P count lines))

-- ## The links

-- these objects were opened, one after the other
abbrev pub AllOpen : {T : Type 0} → Kind T → List T → Kind T → Type 0
AllOpen old [] new = new ≡ old
AllOpen {T} old (x ∷ xs) new = (mid : Kind T) × Opens old x mid × AllOpen mid xs new

-- the count of a link: of failed reads and failed writes together
abbrev pub count_of : Told → ℕ
count_of told = told.read_faults + told.write_faults

-- these links were handed back, one after the other, from this place on
abbrev pub AllReturn : {L : Type 0} → (L → Told) → ℕ → Kind L → List L → Kind L → Type 0
AllReturn told place old [] new = new ≡ old
AllReturn {L} told place old (x ∷ xs) new =
    (mid : Kind L) × Returns old (count_of (told x)) x mid × Placed old place mid × AllReturn told (place + 1) mid xs new

-- So many links were opened, and handed back in that order from place 0 on; P of them as they were then.
pub record OnLinks {L : Type 0} (told : L → Told) (count : ℕ) (old new : Kind L) (P : List L → List L → Type 0) : Type 0 where
  pub opened : List L
  pub closed : List L
  pub mid : Kind L
  pub opens : AllOpen old opened mid
  pub returns : AllReturn told 0 mid closed new
  pub all : length opened ≡ count
  pub back : length closed ≡ length opened
  pub holds : P opened closed

-- These links were opened, fewer than so many, and the opening of the next one failed.
pub record OpensFront {L : Type 0} (count : ℕ) (old : Kind L) (opened : List L) (new : Kind L) : Type 0 where
  pub mid : Kind L
  pub opens : AllOpen old opened mid
  pub fails : OpensNone mid new
  pub few : length opened < count

-- The same, and they were handed back as they were.
pub record OpensFewer {L : Type 0} (told : L → Told) (count : ℕ) (old new : Kind L) : Type 0 where
  pub opened : List L
  pub mid : Kind L
  pub opens : OpensFront count old opened mid
  pub returns : AllReturn told 0 mid opened new

-- ## Ends

module _ {L : Type 0} (told : L → Told) (count : ℕ) (lines : List Line) (old new : Kind L) (out_old out_new : Option (List ℕ)) where
  -- each line was answered, and all was printed
  abbrev pub RunsOnLinks : Type 0
  RunsOnLinks = OnLinks told count old new (λ opened closed. RunsWhole told lines opened closed out_old out_new)

  -- the output failed within the text of the answers
  abbrev pub FailsInAnswers : Type 0
  FailsInAnswers = OnLinks told count old new (λ opened closed. StopsPrinting told lines opened closed out_old out_new)

  -- a link couldn't be opened, or failed at the line of this number
  abbrev pub EndsAtLink : ℕ → Type 0
  EndsAtLink number =
      ((number ≡ 0) × (out_new ≡ out_old) × OpensFewer told count old new)
      ⊎ OnLinks told count old new (λ opened closed. StopsAtLink told lines opened closed out_old out_new number)

  -- what came for the line of this number is no reply
  abbrev pub EndsAtReply : ℕ → Type 0
  EndsAtReply number = OnLinks told count old new (λ opened closed. StopsAtReply told lines opened closed out_old out_new number)

-- the same, and then P of the text on it
module _ {L : Type 0} (P : Option (List ℕ) → Option (List ℕ) → List ℕ → Type 0) (told : L → Told) (count : ℕ) where
  module _ (lines : List Line) (old new : Kind L) (out_old out_new : Option (List ℕ)) where
    pub record FailsAtLink : Type 0 where
      pub number : ℕ
      pub answered : Option (List ℕ)
      pub ends : EndsAtLink told count lines old new out_old answered number
      pub text : P answered out_new (fault_said number (codes "link"))

    pub record FailsAtReply : Type 0 where
      pub number : ℕ
      pub answered : Option (List ℕ)
      pub ends : EndsAtReply told count lines old new out_old answered number
      pub text : P answered out_new (fault_said number (codes "reply"))

-- the output failed within the text of the answers, or within that on a fault of a link or of a reply
pub data FailsPrinting {L : Type 0} (told : L → Told) (count : ℕ) (lines : List Line) (old new : Kind L)
    (out_old out_new : Option (List ℕ)) : Type 0 where
  in_answers : FailsInAnswers told count lines old new out_old out_new → FailsPrinting told count lines old new out_old out_new
  at_link : FailsAtLink AppendsFront told count lines old new out_old out_new → FailsPrinting told count lines old new out_old out_new
  at_reply : FailsAtReply AppendsFront told count lines old new out_old out_new → FailsPrinting told count lines old new out_old out_new

module _ {L : Type 0} (told : L → Told) (count : ℕ) (lines : List Line) (old new : Kind L) (out_old out_new : Option (List ℕ)) where
  -- how the lines end on the links where they don't run whole
  abbrev pub LinesStop : Cause → ℕ → Type 0
  LinesStop Link number = EndsAtLink told count lines old new out_old out_new number
  LinesStop Reply number = EndsAtReply told count lines old new out_old out_new number
  LinesStop Output number = FailsInAnswers told count lines old new out_old out_new

  abbrev pub LinesEnd : {U : Type 0} → Result U LineFault → Type 0
  LinesEnd result =
      MatchResult result (λ _. RunsOnLinks told count lines old new out_old out_new)
      (λ fault. LinesStop fault.cause fault.line)

-- the counts that rose at that: of the links, or of the output
abbrev pub LinesCausedBy : {L : Type 0} → Cause → Kind L → Kind L → ℕ → ℕ → Type 0
LinesCausedBy Link old new out_old out_new = KindFailed old new × (out_new ≡ out_old)
LinesCausedBy Reply old new out_old out_new = KindKept old new × (out_new ≡ out_old)
LinesCausedBy Output old new out_old out_new = KindKept old new × Rose out_old out_new

abbrev pub HasLinesCause : {L U : Type 0} → Result U LineFault → Kind L → Kind L → ℕ → ℕ → Type 0
HasLinesCause result old new out_old out_new =
    MatchResult result (λ _. KindKept old new × (out_new ≡ out_old))
    (λ fault. LinesCausedBy fault.cause old new out_old out_new)

-- ## The end of a run, for the script that was read

-- the output failed, within the text of the answers or on a fault, or within that on a bad line
abbrev pub Unprinted : {L : Type 0} → (L → Told) → ℕ → Script → Kind L → Kind L → Option (List ℕ) → Option (List ℕ) → Type 0
Unprinted told count (right lines) old new out_old out_new = FailsPrinting told count lines old new out_old out_new
Unprinted told count (bad_line number) old new out_old out_new =
    (new ≡ old) × AppendsFront out_old out_new (bad_line_said number)

abbrev pub Ends : {L : Type 0} → End → (L → Told) → ℕ → Script → Kind L → Kind L → Option (List ℕ) → Option (List ℕ) → Type 0
Ends Done told count script old new out_old out_new =
    IfRight script (λ lines. RunsOnLinks told count lines old new out_old out_new)
Ends NoMemory told count script old new out_old out_new = (new ≡ old) × (out_new ≡ out_old)
Ends NoScript told count script old new out_old out_new = ⊥
Ends BadScript told count script old new out_old out_new =
    (new ≡ old) × IfBad script (λ number. Appends out_old out_new (bad_line_said number))
Ends LinkFault told count script old new out_old out_new =
    IfRight script (λ lines. FailsAtLink Appends told count lines old new out_old out_new)
Ends BadReply told count script old new out_old out_new =
    IfRight script (λ lines. FailsAtReply Appends told count lines old new out_old out_new)
Ends OutputFault told count script old new out_old out_new = Unprinted told count script old new out_old out_new

-- the counts that rose: of the links, or of the output
abbrev pub EndCausedBy : {L : Type 0} → End → Kind L → Kind L → ℕ → ℕ → Type 0
EndCausedBy LinkFault old new out_old out_new = KindFailed old new × (out_new ≡ out_old)
EndCausedBy OutputFault old new out_old out_new = Rose out_old out_new
EndCausedBy end old new out_old out_new = KindKept old new × (out_new ≡ out_old)

-- ## Statuses

abbrev pub status_of : End → ℕ
status_of Done = 0
status_of NoMemory = 3
status_of NoScript = 4
status_of OutputFault = 7
status_of BadScript = 13
status_of LinkFault = 14
status_of BadReply = 15

abbrev pub IsStatus : ℕ → Type 0
IsStatus n = (n ≡ 0) ⊎ ((n ≡ 2) ⊎ ((n ≡ 3) ⊎ ((n ≡ 4) ⊎ ((n ≡ 7) ⊎ ((n ≡ 13) ⊎ ((n ≡ 14) ⊎ (n ≡ 15)))))))

abbrev pub Unfailed : {T : Type 0} → Kind T → Kind T → Type 0
Unfailed old new = KindFailed old new → ⊥

-- how a run with right words ends: without a script that could be read, or over the one that was
abbrev pub WordsEnd : {F L : Type 0} → End → (F → Option (List ℕ)) → (F → ℕ) → (L → Told) → List (List ℕ)
    → Kind F → Kind F → Kind L → Kind L → Option (List ℕ) → Option (List ℕ) → Type 0
WordsEnd NoScript left faults told words file_old file_new old new out_old out_new =
    LoadsNone left faults (max_script + 1) file_old file_new × (new ≡ old) × (out_new ≡ out_old)
WordsEnd end left faults told words file_old file_new old new out_old out_new =
    ForScript left faults words file_old file_new (λ count script. Ends end told count script old new out_old out_new)

-- the counts that rose at that
abbrev pub WordsCausedBy : {F L : Type 0} → End → Kind F → Kind F → Kind L → Kind L → ℕ → ℕ → Type 0
WordsCausedBy NoScript file_old file_new old new out_old out_new =
    KindFailed file_old file_new × KindKept old new × (out_new ≡ out_old)
WordsCausedBy end file_old file_new old new out_old out_new =
    KindKept file_old file_new × EndCausedBy end old new out_old out_new

-- the next file to be opened tells these bytes
pub record TellsScript {F : Type 0} (left : F → Option (List ℕ)) (kind : Kind F) (bytes : List ℕ) : Type 0 where
  pub file : F
  pub later : List F
  pub first : kind.unopened ≡ Some (file ∷ later)
  pub bytes_are : left file ≡ Some bytes

-- the links to be opened tell what they will give
pub record TellBytes {L : Type 0} (told : L → Told) (kind : Kind L) (count : ℕ) : Type 0 where
  pub links : List L
  pub are : kind.unopened ≡ Some links
  pub give : (k : ℕ) (d : L) → k < count → (bytes : List ℕ) × ((told_at told links k d).left ≡ Some bytes)

-- The links to be opened tell what they will give: on each the answers to its lines, one to each line of all.
pub record TellAnswers {L : Type 0} (told : L → Told) (kind : Kind L) (count : ℕ) (lines : List Line) : Type 0 where
  pub answers : List Answer
  pub links : List L
  pub each : AreAnswers lines answers
  pub all : length answers ≡ length lines
  pub are : kind.unopened ≡ Some links
  pub give : (k : ℕ) (d : L) → k < count → (more : List ℕ) × ((told_at told links k d).left ≡ Some (got lines answers k ++ more))
