-- How the program ends: what it took of the source and gave to the sink, where they tell their bytes.
use Rattle.std.specs.Prelude.{◌≡◌, ◌≢◌, ℕ, ◌<◌, ◌≤◌, ◌⊎◌, List, [], ◌++◌, length, Option}
use Rattle.std.specs.Io.KnownBytes.{Consumes, Appends, IsAtEnd}
use Rattle.dpe_text.specs.Writing.{AppendsFront}
use Rattle.dpe_vaults.specs.Calls.{Call}
use Rattle.dpe_vaults.specs.Items.{all_bytes, AreCalls, BeginsNoItem, LeavesNoItem, answers}
use Rattle.dpe_vaults.specs.Words.{AskFor}

-- the statuses of a run, and those of the program
abbrev pub IsRunStatus : ℕ → Type 0
IsRunStatus n = (n ≡ 0) ⊎ ((n ≡ 4) ⊎ ((n ≡ 7) ⊎ ((n ≡ 9) ⊎ (n ≡ 10))))

abbrev pub IsStatus : ℕ → Type 0
IsStatus n = (n ≡ 2) ⊎ ((n ≡ 3) ⊎ IsRunStatus n)

-- What stands behind the items that were read, by the status. 0: nothing. 4: the source failed before a whole item. 9: bytes
-- that are no item, where more items were allowed. 10: a byte behind as many items as are allowed.
pub record IsBehind (most count : ℕ) (left : Option (List ℕ)) (part : List ℕ) (status : ℕ) : Type 0 where
  pub few : count ≤ most
  pub ended : status ≡ 0 → (part ≡ []) × IsAtEnd left
  pub cut : status ≡ 4 → BeginsNoItem part
  pub malformed : status ≡ 9 → (count < most) × (0 < length part) × LeavesNoItem left part
  pub overlong : status ≡ 10 → (count ≡ most) × (0 < length part)

-- Items were read and answered. The sink got all answers, but a front of them where it failed, which is 7.
pub record Ran (most : ℕ) (left_old left_new got_old got_new : Option (List ℕ)) (status : ℕ) : Type 0 where
  pub items : List Call
  pub part : List ℕ
  pub each : AreCalls items
  pub read : Consumes left_old left_new (all_bytes items ++ part)
  pub behind : IsBehind most (length items) left_new part status
  pub written : status ≢ 7 → Appends got_old got_new (answers items)
  pub unsent : status ≡ 7 → AppendsFront got_old got_new (answers items)

-- the words ask for so many entries, and P holds of the number
pub record ForEntries (words : List (List ℕ)) (P : ℕ → Type 0) : Type 0 where
  pub entries : ℕ
  pub asked : AskFor words entries
  pub holds : P entries

-- ## The status of bytes

-- 0 with no tail; 9 with a tail that begins with no item behind fewer items than allowed; 10 with a tail behind them all
abbrev pub IsTail : ℕ → ℕ → List ℕ → ℕ → Type 0
IsTail most count tail status =
    ((status ≡ 0) × (count ≤ most) × (tail ≡ []))
    ⊎ (((status ≡ 9) × (count < most) × (0 < length tail) × BeginsNoItem tail)
    ⊎ ((status ≡ 10) × (count ≡ most) × (0 < length tail)))

-- the bytes are items and a tail that has this status
pub record LeadsTo (most : ℕ) (bytes : List ℕ) (status : ℕ) : Type 0 where
  pub items : List Call
  pub tail : List ℕ
  pub each : AreCalls items
  pub bytes_are : bytes ≡ all_bytes items ++ tail
  pub is_tail : IsTail most (length items) tail status
