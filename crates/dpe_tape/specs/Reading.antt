-- What a call took of a source and gave to a sink, where they tell their bytes.
use Rattle.std.specs.Prelude.{◌≡◌, ℕ, ◌<◌, ◌≤◌, List, [], ◌++◌, length, take, slice_index, Option, Some}
use Rattle.dpe_io.specs.Causes.{Rose}
use Rattle.std.specs.Io.KnownBytes.{Consumes, IsAtEnd}
use Rattle.dpe_link.specs.Reading.{TakesPart}
pub use Rattle.dpe_text.specs.Writing.{AppendsFront}
use Rattle.dpe_tape.specs.Tape.{Item, IsItem, item_bytes, BeginsNoItem}
use Rattle.dpe_tape.specs.declared.tape.ItemBuffer.{ItemBuffer}
use Rattle.dpe_tape.specs.declared.tape.Taken.{Taken}
use Rattle.dpe_tape.specs.declared.tape.Taken.TheVariants.{Whole, End, NoItem, Fault}

-- the item in a buffer
abbrev pub item_of : ItemBuffer → Item
item_of b = record { locality = b.locality; random = b.random; payload = take b.len b.payload }

-- the bytes that were taken, and whatever the source has left, begin with no item
abbrev pub LeavesNoItem : Option (List ℕ) → List ℕ → Type 0
LeavesNoItem left part = (rest : List ℕ) → left ≡ Some rest → BeginsNoItem (part ++ rest)

-- one item was read; or the source was at its end; or no item stands there; or the source failed within an item
abbrev pub ReadsItem : Option (List ℕ) → Option (List ℕ) → Taken → Item → Type 0
ReadsItem old new Whole item = IsItem item × Consumes old new (item_bytes item)
ReadsItem old new End item = Consumes old new [] × IsAtEnd new
ReadsItem old new NoItem item = (part : List ℕ) × Consumes old new part × (0 < length part) × LeavesNoItem new part
ReadsItem old new Fault item = (part : List ℕ) × Consumes old new part × BeginsNoItem part

-- the same for the 33 bytes before the frame
abbrev pub ReadsFront : Option (List ℕ) → Option (List ℕ) → Taken → List ℕ → Type 0
ReadsFront old new Whole front = Consumes old new front × (slice_index front 0 ≤ 7)
ReadsFront old new End front = Consumes old new [] × IsAtEnd new
ReadsFront old new NoItem front = (part : List ℕ) × Consumes old new part × (0 < length part) × LeavesNoItem new part
ReadsFront old new Fault front = (part : List ℕ) × Consumes old new part × BeginsNoItem part

-- the source's count rose just where the source failed
abbrev pub HasFault : ℕ → ℕ → Taken → Type 0
HasFault before now Whole = now ≡ before
HasFault before now End = now ≡ before
HasFault before now NoItem = now ≡ before
HasFault before now Fault = Rose before now

-- nothing is left, or a byte is
abbrev pub ReadsEnd : Option (List ℕ) → Option (List ℕ) → Taken → Type 0
ReadsEnd old new Whole = ⊥
ReadsEnd old new End = Consumes old new [] × IsAtEnd new
ReadsEnd old new NoItem = (part : List ℕ) × Consumes old new part × (0 < length part)
ReadsEnd old new Fault = TakesPart old new 1
