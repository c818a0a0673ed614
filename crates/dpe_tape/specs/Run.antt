-- How a run ends: what it took of the source and gave to the sink, where they tell their bytes. The replies to items
-- are the frames that are written for them.
use Rattle.std.specs.Prelude.{◌≡◌, ℕ, ◌<◌, List, ◌++◌, length, Option}
use Rattle.std.specs.Io.KnownBytes.{Consumes, Appends, IsAtEnd}
use Rattle.dpe_tape.specs.Tape.{Item, AreItems, IsTape, tape_bytes, item_limit, BeginsNoItem}
use Rattle.dpe_tape.specs.Reading.{AppendsFront, LeavesNoItem}
use Rattle.dpe_tape.specs.declared.run.End.{End}
use Rattle.dpe_tape.specs.declared.run.End.TheVariants as ends

-- the source had a tape and is at its end, and the sink got the replies
pub record AnswersTape (replies : List Item → List ℕ) (left_old left_new got_old got_new : Option (List ℕ)) : Type 0 where
  pub items : List Item
  pub tape : IsTape items
  pub read : Consumes left_old left_new (tape_bytes items)
  pub at_end : IsAtEnd left_new
  pub written : Appends got_old got_new (replies items)

-- the source failed within or before an item, and the sink got the replies of the whole items
pub record CutShort (replies : List Item → List ℕ) (left_old left_new got_old got_new : Option (List ℕ)) : Type 0 where
  pub items : List Item
  pub part : List ℕ
  pub tape : IsTape items
  pub read : Consumes left_old left_new (tape_bytes items ++ part)
  pub cut : BeginsNoItem part
  pub written : Appends got_old got_new (replies items)

-- the sink failed, and got a front of the replies of the whole items that were read
pub record Unsent (replies : List Item → List ℕ) (left_old left_new got_old got_new : Option (List ℕ)) : Type 0 where
  pub items : List Item
  pub part : List ℕ
  pub tape : IsTape items
  pub read : Consumes left_old left_new (tape_bytes items ++ part)
  pub written : AppendsFront got_old got_new (replies items)

-- fewer items than a tape may have, and bytes that are no item, were read; the sink got the replies of the items
pub record Malformed (replies : List Item → List ℕ) (left_old left_new got_old got_new : Option (List ℕ)) : Type 0 where
  pub items : List Item
  pub part : List ℕ
  pub each : AreItems items
  pub few : length items < item_limit
  pub read : Consumes left_old left_new (tape_bytes items ++ part)
  pub some : 0 < length part
  pub fault : LeavesNoItem left_new part
  pub written : Appends got_old got_new (replies items)

-- as many items as a tape may have, and a byte behind them, were read; the sink got the replies of the items
pub record Overlong (replies : List Item → List ℕ) (left_old left_new got_old got_new : Option (List ℕ)) : Type 0 where
  pub items : List Item
  pub part : List ℕ
  pub each : AreItems items
  pub all : length items ≡ item_limit
  pub read : Consumes left_old left_new (tape_bytes items ++ part)
  pub some : 0 < length part
  pub written : Appends got_old got_new (replies items)

abbrev pub Ended : End → (List Item → List ℕ) → Option (List ℕ) → Option (List ℕ) → Option (List ℕ) → Option (List ℕ) → Type 0
Ended ends.Done replies a b x y = AnswersTape replies a b x y
Ended ends.SourceFault replies a b x y = CutShort replies a b x y
Ended ends.SinkFault replies a b x y = Unsent replies a b x y
Ended ends.Malformed replies a b x y = Malformed replies a b x y
Ended ends.Overlong replies a b x y = Overlong replies a b x y
