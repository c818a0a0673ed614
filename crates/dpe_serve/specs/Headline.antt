-- What the server promises: what stands at each status.
use Rattle.std.specs.Prelude.{ℕ, ◌+◌, ◌<◌, ◌≤◌, ◌≡◌, ◌⊎◌, Bool, true, false, List, [], length, map, Option, IfSome}
use Rattle.std.specs.List.{AllByRecursion, list_any}
use Rattle.std.specs.Io.KnownBytes.{Appends}
use Rattle.dpe_io.specs.Causes.{Rose}
use Rattle.dpe_io.specs.Told.{Kind, OpensNone}
use Rattle.dpe_io.specs.declared.traits.Source as source
use Rattle.dpe_io.specs.declared.traits.Sink as sink
use Rattle.dpe_io.specs.declared.outside.House as house
use Rattle.dpe_io.specs.declared.outside.Door as door
use Rattle.dpe_io.specs.declared.outside.Entropy as entropy
use Rattle.dpe_journal.specs.Journal.{journal_bytes}
use Rattle.dpe_model.specs.History.{Entry, Legal}
use Rattle.dpe_model.specs.Laws.{FoldedInputs, HandleLaws}
use Rattle.dpe_io.specs.Told.{Told}
use Rattle.dpe_io.specs.Tells.{Random, random}
use Rattle.dpe_io.specs.Tells.{Entrance, entrance}
use Rattle.dpe_serve.specs.Gates.{Gate, OneHistory}
use Rattle.dpe_serve.specs.Lending.{LendsOne, LendsAll, LendsUntil}
use Rattle.dpe_serve.specs.Seeds.{HasSeed, HasWrongSize, HasNoSeed}
use Rattle.dpe_serve.specs.Setting.{Setting, ForSetting}
use Rattle.dpe_serve.specs.Summary.{totals_of, summary_text}
use Rattle.dpe_text.specs.Writing.{AppendsFront}

-- what a house tells of its doors, journals and entropies
pub record ServiceView (D J E : Type 0) : Type 0 where
  pub doors : Kind D
  pub journals : Kind J
  pub entropies : Kind E

-- what a house tells of each kind of its objects
pub record HouseView (S D J E : Type 0) : Type 0 where
  pub seeds : Kind S
  pub service : ServiceView D J E

abbrev pub service_by : {H S D J E C : Type 0} → house.Ghosts H S D J E C → H → ServiceView D J E
service_by m h = record { doors = m.doors h; journals = m.journals h; entropies = m.entropies h }

-- a house as it tells each kind
abbrev pub house_by : {H S D J E C : Type 0} → house.Ghosts H S D J E C → H → HouseView S D J E
house_by m h = record { seeds = m.seeds h; service = service_by m h }

-- how the objects of a house tell: a seed its bytes, a journal what it got, and each its count of faults
pub record Tells (S D J E C : Type 0) : Type 0 where
  pub left : S → Option (List ℕ)
  pub read_faults : S → ℕ
  pub bytes : J → Option (List ℕ)
  pub write_faults : J → ℕ
  pub conn : C → Told
  pub entrance : D → Entrance C
  pub random : E → Random

abbrev pub tells_by :
    {S D J E C : Type 0} → source.Ghosts S → sink.Ghosts J → (C → Told) → door.Ghosts D C → entropy.Ghosts E → Tells S D J E C
tells_by seed journal conn door_ways entropy_ways = record {
  left = seed.left;
  read_faults = seed.faults;
  bytes = journal.bytes;
  write_faults = journal.faults;
  conn = conn;
  entrance = entrance door_ways;
  random = random entropy_ways;
}

module _ {D J E : Type 0} where
  -- nothing but the seed was opened
  abbrev pub NothingOpened : ServiceView D J E → ServiceView D J E → Type 0
  NothingOpened before after = after ≡ before

  -- the journal couldn't be opened, and no door was
  pub record JournalUnopened (before after : ServiceView D J E) : Type 0 where
    pub journal : OpensNone before.journals after.journals
    pub doors : after.doors ≡ before.doors
    pub entropies : after.entropies ≡ before.entropies

module _ {S D J E C : Type 0} (tells : Tells S D J E C) where
  abbrev pub door_faults : D → ℕ
  door_faults d = (tells.entrance d).faults

  abbrev pub entropy_faults : E → ℕ
  entropy_faults e = (tells.random e).faults

  -- ## The journal

  -- The journal was opened with no bytes, got this text and was handed back with no fault.
  pub record WritesWhole (text : List ℕ) (old new : Kind J) : Type 0 where
    pub opened : J
    pub after : J
    pub lends : LendsOne tells.write_faults old opened after new
    pub empty : IfSome (tells.bytes opened) (λ bytes. bytes ≡ [])
    pub written : Appends (tells.bytes opened) (tells.bytes after) text
    pub kept : tells.write_faults after ≡ 0

  -- The journal was opened with no bytes, got a front of this text, and failed.
  pub record WritesPart (text : List ℕ) (old new : Kind J) : Type 0 where
    pub opened : J
    pub after : J
    pub lends : LendsOne tells.write_faults old opened after new
    pub empty : IfSome (tells.bytes opened) (λ bytes. bytes ≡ [])
    pub written : AppendsFront (tells.bytes opened) (tells.bytes after) text
    pub rose : Rose 0 (tells.write_faults after)

  -- ## The workers

  -- A door and an entropy were opened with no fault, and no connection had been handed back to the door.
  pub record IsOpened (door : D) (entropy : E) : Type 0 where
    pub door_kept : door_faults door ≡ 0
    pub none_ended : IfSome (tells.entrance door).lists (λ lists. lists.ended ≡ [])
    pub entropy_kept : entropy_faults entropy ≡ 0

  module _ (s : Setting) (doors doors_after : Kind D) (entropies entropies_after : Kind E) where
    -- The gates are those of the doors of the setting, each with an entropy: opened in order, and handed back in order.
    pub record GatesOf (gates : List (Gate D E)) : Type 0 where
      pub localities : map (λ g. g.locality) gates ≡ map (λ d. d.locality) s.doors
      pub fresh : AllByRecursion (λ g. IsOpened g.opened g.drawn_from) gates
      pub lent_doors : LendsAll door_faults doors (map (λ g. g.opened) gates) (map (λ g. g.closed) gates) doors_after
      pub lent_entropies :
          LendsAll entropy_faults entropies (map (λ g. g.drawn_from) gates) (map (λ g. g.drawn_to) gates)
          entropies_after

  module _ (s : Setting) (seed : List ℕ) (H : List Entry) where
    -- The workers of all doors ran, and what came through their gates is this one legal history.
    pub record ServesDoors (doors doors_after : Kind D) (entropies entropies_after : Kind E) : Type 0 where
      pub gates : List (Gate D E)
      pub legal : Legal seed s.first H
      pub few : length H ≤ s.entries
      -- It holds the workers' commands alone; each connection is served by its own; the random bytes are the words drawn.
      pub are_gates : GatesOf s doors doors_after entropies entropies_after gates
      pub history : OneHistory tells.conn tells.entrance tells.random s.entries s.each H gates
      -- Signatures, boxes and unsealed texts are computed from folded inputs, and the laws of handles hold.
      pub folded : FoldedInputs seed s.first H
      pub handles : HandleLaws seed s.first H

  module _ (Writes : List ℕ → Kind J → Kind J → Type 0) (s : Setting) where
    -- The workers of all doors ran, and the journal is that of their history.
    pub record Serves (seed : List ℕ) (before after : ServiceView D J E) : Type 0 where
      pub H : List Entry
      pub served : ServesDoors s seed H before.doors after.doors before.entropies after.entropies
      pub journal : Writes (journal_bytes s.first H) before.journals after.journals

  -- whether the door of a gate failed
  abbrev pub any_failed : List (Gate D E) → Bool
  any_failed gates = list_any (λ g. g.tally.door_failed) gates

  -- ## Where an opening failed

  -- A door and an entropy for each of these words were opened and came back untouched, and the next entropy wasn't opened.
  pub record EntropyUnopened (words : ℕ) (doors doors_after : Kind D) (entropies entropies_after : Kind E) : Type 0 where
    pub opened : List D
    pub drawn_from : List E
    pub fewer : length opened < words
    pub number : length drawn_from ≡ length opened
    pub lent_doors : LendsAll door_faults doors opened opened doors_after
    pub lent_entropies : LendsUntil entropy_faults entropies drawn_from entropies_after
    pub kept : (doors_after.faults ≡ doors.faults) × (entropies_after.faults ≡ entropies.faults)

  -- The next entropy was opened too, and came back untouched, and the next door wasn't opened.
  pub record DoorUnopened (words : ℕ) (doors doors_after : Kind D) (entropies entropies_after : Kind E) : Type 0 where
    pub opened : List D
    pub drawn_from : List E
    pub fewer : length opened < words
    pub number : length drawn_from ≡ length opened + 1
    pub lent_doors : LendsUntil door_faults doors opened doors_after
    pub lent_entropies : LendsAll entropy_faults entropies drawn_from drawn_from entropies_after
    pub kept : (doors_after.faults ≡ doors.faults) × (entropies_after.faults ≡ entropies.faults)

  abbrev pub Unopened : Setting → Kind D → Kind D → Kind E → Kind E → Type 0
  Unopened s doors doors_after entropies entropies_after =
      EntropyUnopened (length s.doors) doors doors_after entropies entropies_after
      ⊎ DoorUnopened (length s.doors) doors doors_after entropies entropies_after

  module _ (Writes : List ℕ → Kind J → Kind J → Type 0) (s : Setting) where
    -- No worker ran, since an entropy or a door couldn't be opened. The journal is that of the empty history.
    pub record ServesNone (before after : ServiceView D J E) : Type 0 where
      pub unopened : Unopened s before.doors after.doors before.entropies after.entropies
      pub journal : Writes (journal_bytes s.first []) before.journals after.journals

  -- ## What stands once the seed was read

  module _ (s : Setting) (seed : List ℕ) (old new : Option (List ℕ)) (before after : ServiceView D J E) where
    -- one legal history, and its summary was printed
    pub record ServesOneHistory : Type 0 where
      pub run : Serves WritesWhole s seed before after
      pub whole : any_failed run.served.gates ≡ false
      pub printed : Appends old new (summary_text (totals_of run.H (map (λ g. g.tally) run.served.gates)))

    -- the same, with a front of the summary
    pub record ServesUnprinted : Type 0 where
      pub run : Serves WritesWhole s seed before after
      pub whole : any_failed run.served.gates ≡ false
      pub printed : AppendsFront old new (summary_text (totals_of run.H (map (λ g. g.tally) run.served.gates)))

  -- a door failed
  pub record ServesInPart (s : Setting) (seed : List ℕ) (before after : ServiceView D J E) : Type 0 where
    pub run : Serves WritesWhole s seed before after
    pub failed : any_failed run.served.gates ≡ true

  -- a door failed, or an opening of an entropy or a door
  abbrev pub FailsToServe : Setting → List ℕ → ServiceView D J E → ServiceView D J E → Type 0
  FailsToServe s seed before after = ServesInPart s seed before after ⊎ ServesNone WritesWhole s before after

  -- the journal failed, whatever became of the doors, or its opening
  abbrev pub FailsToWrite : Setting → List ℕ → ServiceView D J E → ServiceView D J E → Type 0
  FailsToWrite s seed before after =
      Serves WritesPart s seed before after ⊎ ServesNone WritesPart s before after ⊎ JournalUnopened before after

  -- ## What stands at each status

  -- there is a seed of 32 bytes, and this is so of it
  abbrev pub ForSeed : (before after : HouseView S D J E) → (List ℕ → Type 0) → Type 0
  ForSeed before after P = (seed : List ℕ) × HasSeed tells.left tells.read_faults before.seeds after.seeds seed × P seed

  -- of the words' one setting and a seed of 32 bytes this is so
  abbrev pub ForRun : (words : List (List ℕ)) (before after : HouseView S D J E) → (Setting → List ℕ → Type 0) → Type 0
  ForRun words before after P = ForSetting words (λ s. ForSeed before after (λ seed. P s seed))

  -- The headline: one legal history, and its summary was printed.
  abbrev pub Headline : (words : List (List ℕ)) (old new : Option (List ℕ)) (before after : HouseView S D J E) → Type 0
  Headline words old new before after =
      ForRun words before after (λ s seed. ServesOneHistory s seed old new before.service after.service)

  module _ (words : List (List ℕ)) (status : ℕ) (old new : Option (List ℕ)) where
    -- What stands at the statuses 3 to 8.
    pub record Stands (before after : HouseView S D J E) : Type 0 where
      pub unprinted :
          status ≡ 7 → ForRun words before after (λ s seed. ServesUnprinted s seed old new before.service after.service)
      pub unserved : status ≡ 5 → ForRun words before after (λ s seed. FailsToServe s seed before.service after.service)
      pub unwritten : status ≡ 6 → ForRun words before after (λ s seed. FailsToWrite s seed before.service after.service)
      pub no_memory : status ≡ 3 → ForRun words before after (λ s seed. NothingOpened before.service after.service)
      pub unread :
          status ≡ 4
          → ForSetting words
          (λ s. HasNoSeed tells.left tells.read_faults before.seeds after.seeds
          × NothingOpened before.service after.service)
      pub wrong_seed :
          status ≡ 8
          → ForSetting words
          (λ s. HasWrongSize tells.left tells.read_faults before.seeds after.seeds
          × NothingOpened before.service after.service)
