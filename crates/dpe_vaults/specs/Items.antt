-- The program's input and output: calls and replies as bytes.
use Rattle.std.specs.Prelude.{◌≡◌, ℕ, ◌+◌, ◌<◌, ◌≤◌, List, [], ◌∷◌, ◌++◌, length, flat_map, Option, Some}
use Rattle.std.specs.List.{AllByRecursion}
use Rattle.std.specs.Int.{w16, to_be_bytes}
use Rattle.std.specs.Io.KnownBytes.{Consumes, IsAtEnd}
use Rattle.dpe_io.specs.Causes.{Rose}
use Rattle.dpe_link.specs.Reading.{TakesPart}
use Rattle.dpe_vaults.specs.declared.call.Op.{Op}
use Rattle.dpe_vaults.specs.declared.call.Op.TheVariants.{Put, Get, Remove, Names}
use Rattle.dpe_vaults.specs.declared.reply.VaultReply.{VaultReply}
use Rattle.dpe_vaults.specs.declared.item.Front.{Front}
use Rattle.dpe_vaults.specs.declared.item.Front.TheVariants as fronts
use Rattle.dpe_vaults.specs.declared.item.Taken.{Taken}
use Rattle.dpe_vaults.specs.declared.item.Taken.TheVariants as takens
use Rattle.dpe_vaults.specs.Calls.{Call, IsCall}
use Rattle.dpe_vaults.specs.Kept.{reply_to}

-- ## Items

-- the most bytes of an item
abbrev pub item_limit : ℕ
item_limit = 2170

abbrev pub op_number : Op → ℕ
op_number Put = 0
op_number Get = 1
op_number Remove = 2
op_number Names = 3

-- the locality, the operation, the name after its length, and the box after its length in two bytes
abbrev pub item_bytes : Call → List ℕ
item_bytes c =
    (c.locality ∷ op_number c.op ∷ length c.name ∷ c.name) ++ (to_be_bytes w16 (length c.sealed) ++ c.sealed)

abbrev pub all_bytes : List Call → List ℕ
all_bytes cs = flat_map item_bytes cs

abbrev pub AreCalls : List Call → Type 0
AreCalls cs = AllByRecursion IsCall cs

-- no front of the bytes is an item
abbrev pub BeginsNoItem : List ℕ → Type 0
BeginsNoItem bytes = (c : Call) (more : List ℕ) → IsCall c → bytes ≡ item_bytes c ++ more → ⊥

-- ## Replies

-- the code, and the bytes after their length in two bytes
abbrev pub reply_bytes : VaultReply → List ℕ
reply_bytes r = r.code ∷ (to_be_bytes w16 (length r.bytes) ++ r.bytes)

-- the replies to calls behind others
abbrev pub answers_after : List Call → List Call → List ℕ
answers_after before [] = []
answers_after before (c ∷ cs) = reply_bytes (reply_to before c) ++ answers_after (before ++ c ∷ []) cs

-- all that is written for the items
abbrev pub answers : List Call → List ℕ
answers cs = answers_after [] cs

-- ## Bytes that are read as items

-- each item that begins with the bytes has at least so many more
abbrev pub NeedsMore : List ℕ → ℕ → Type 0
NeedsMore bytes need =
    (c : Call) (more rest : List ℕ) → IsCall c → bytes ++ more ≡ item_bytes c ++ rest → length bytes + need ≤ length (item_bytes c)

-- whole: the bytes begin with this item; short: at least so many more are needed; wrong: they begin no item
abbrev pub Judged : List ℕ → Call → Front → Type 0
Judged bytes c fronts.Whole = IsCall c × ((rest : List ℕ) × (bytes ≡ item_bytes c ++ rest))
Judged bytes c (fronts.Short need) = (0 < need) × (length bytes + need ≤ item_limit) × NeedsMore bytes need
Judged bytes c fronts.Wrong = (0 < length bytes) × ((more : List ℕ) → BeginsNoItem (bytes ++ more))

-- the bytes that were taken, and whatever the source has left, begin with no item
abbrev pub LeavesNoItem : Option (List ℕ) → List ℕ → Type 0
LeavesNoItem left part = (rest : List ℕ) → left ≡ Some rest → BeginsNoItem (part ++ rest)

-- one item was read; or the source was at its end; or no item stands there; or the source failed within an item
abbrev pub ReadsItem : Option (List ℕ) → Option (List ℕ) → Call → Taken → Type 0
ReadsItem old new c takens.Whole = IsCall c × Consumes old new (item_bytes c)
ReadsItem old new c takens.End = Consumes old new [] × IsAtEnd new
ReadsItem old new c takens.NoItem = (part : List ℕ) × Consumes old new part × (0 < length part) × LeavesNoItem new part
ReadsItem old new c takens.Fault = (part : List ℕ) × Consumes old new part × BeginsNoItem part

-- the source's count rose just where the source failed
abbrev pub HasFault : ℕ → ℕ → Taken → Type 0
HasFault before now takens.Whole = now ≡ before
HasFault before now takens.End = now ≡ before
HasFault before now takens.NoItem = now ≡ before
HasFault before now takens.Fault = Rose before now

-- nothing is left, or a byte is
abbrev pub ReadsEnd : Option (List ℕ) → Option (List ℕ) → Taken → Type 0
ReadsEnd old new takens.Whole = ⊥
ReadsEnd old new takens.End = Consumes old new [] × IsAtEnd new
ReadsEnd old new takens.NoItem = (part : List ℕ) × Consumes old new part × (0 < length part)
ReadsEnd old new takens.Fault = TakesPart old new 1
