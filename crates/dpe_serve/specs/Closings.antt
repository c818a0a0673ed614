-- What became of the journal when it was handed back.
use Rattle.std.specs.Prelude.{ℕ, ◌≡◌, List, Option}
use Rattle.std.specs.Io.KnownBytes.{Appends}
use Rattle.dpe_io.specs.Causes.{Rose}
use Rattle.dpe_io.specs.Told.{Kind, Returns, KeepsPlaces}
use Rattle.dpe_text.specs.Writing.{AppendsFront}

module _ {J : Type 0} (bytes : J → Option (List ℕ)) (faults : J → ℕ) where
  -- the journal got this text with no fault, and was handed back
  pub record HandsBackWhole (text : List ℕ) (old : Kind J) (journal : J) (new : Kind J) : Type 0 where
    pub after : J
    pub returned : Returns old (faults after) after new
    pub places : KeepsPlaces old new
    pub written : Appends (bytes journal) (bytes after) text
    pub kept : faults after ≡ faults journal

  -- the journal got a front of this text and failed, and was handed back
  pub record HandsBackPart (text : List ℕ) (old : Kind J) (journal : J) (new : Kind J) : Type 0 where
    pub after : J
    pub returned : Returns old (faults after) after new
    pub places : KeepsPlaces old new
    pub written : AppendsFront (bytes journal) (bytes after) text
    pub rose : Rose (faults journal) (faults after)
