-- What a call took of a source or gave to a sink, where they tell their bytes.
use Rattle.std.specs.Prelude.{◌≡◌, ℕ, ◌+◌, ◌<◌, ◌≤◌, ◌⊎◌, List, [], length, take, Option, None, Some, Result, IfErr, MatchResult}
use Rattle.std.specs.Int.{to_be_bytes, w32}
use Rattle.std.specs.Io.KnownBytes.{Consumes, Appends, IsAtEnd}
use Rattle.dpe_io.specs.Causes.{Rose}
use Rattle.dpe_link.specs.Frames.{frame, told_length, IsUnfinished}
use Rattle.dpe_link.specs.declared.read.FrameFault.{FrameFault}
use Rattle.dpe_link.specs.declared.read.FrameFault.TheVariants.{Cut, TooLong, ReadFault}
use Rattle.dpe_link.specs.declared.write.WriteFault.{WriteFault}

-- fewer bytes than the room were taken
abbrev pub TakesPart : Option (List ℕ) → Option (List ℕ) → ℕ → Type 0
TakesPart old new room = (part : List ℕ) × Consumes old new part × (length part < room)

-- nothing of a frame, or less than a whole one
abbrev pub IsNoFrame : List ℕ → Type 0
IsNoFrame bytes = (bytes ≡ []) ⊎ IsUnfinished bytes

-- Cut: the source ended after so many bytes of an unfinished frame. Too long: the four bytes of a head were taken, which
-- tell this length. A read fault: what was taken is nothing or unfinished.
abbrev pub TakesNoFrame : Option (List ℕ) → Option (List ℕ) → FrameFault → Type 0
TakesNoFrame old new (Cut have) =
    (part : List ℕ) × Consumes old new part × IsUnfinished part × (length part ≡ have) × IsAtEnd new
TakesNoFrame old new (TooLong told) =
    (head : List ℕ) × Consumes old new head × (length head ≡ 4) × (told_length head ≡ told) × (4096 < told)
TakesNoFrame old new ReadFault = (part : List ℕ) × Consumes old new part × IsNoFrame part

-- none: the source is at its end, and nothing was taken; else one whole frame was, whose payload stands in the room
abbrev pub TakesFrame : Option (List ℕ) → Option (List ℕ) → List ℕ → Option ℕ → Type 0
TakesFrame old new room None = Consumes old new [] × IsAtEnd new
TakesFrame old new room (Some count) = (count ≤ 4096) × Consumes old new (frame (take count room))

-- what `read_frame` took, by its answer
abbrev pub ReadsFrame : Option (List ℕ) → Option (List ℕ) → List ℕ → Result (Option ℕ) FrameFault → Type 0
ReadsFrame old new room result = MatchResult result (TakesFrame old new room) (TakesNoFrame old new)

-- the same for the head alone
abbrev pub TakesHead : Option (List ℕ) → Option (List ℕ) → Option ℕ → Type 0
TakesHead old new None = Consumes old new [] × IsAtEnd new
TakesHead old new (Some told) = (told ≤ 4096) × Consumes old new (to_be_bytes w32 told)

abbrev pub ReadsHead : Option (List ℕ) → Option (List ℕ) → Result (Option ℕ) FrameFault → Type 0
ReadsHead old new result = MatchResult result (TakesHead old new) (TakesNoFrame old new)

-- a body behind its head: less than the room was taken, and the source ended or failed
abbrev pub TakesNoBody : Option (List ℕ) → Option (List ℕ) → ℕ → FrameFault → Type 0
TakesNoBody old new room (Cut have) =
    (part : List ℕ) × Consumes old new part × (length part < room) × (4 + length part ≡ have) × IsAtEnd new
TakesNoBody old new room (TooLong told) = ⊥
TakesNoBody old new room ReadFault = TakesPart old new room

-- the count of the source rose at a read fault, and is as before at every other answer
abbrev pub FaultCause : ℕ → ℕ → FrameFault → Type 0
FaultCause before now (Cut have) = now ≡ before
FaultCause before now (TooLong told) = now ≡ before
FaultCause before now ReadFault = Rose before now

abbrev pub HasReadCause : {T : Type 0} → ℕ → ℕ → Result T FrameFault → Type 0
HasReadCause before now result = MatchResult result (λ _. now ≡ before) (FaultCause before now)

-- exactly the first bytes of the text were written, as many as the fault tells
abbrev pub WritesFront : {T : Type 0} → Option (List ℕ) → Option (List ℕ) → List ℕ → Result T WriteFault → Type 0
WritesFront old new text result =
    IfErr result (λ fault. (fault.written ≤ length text) × Appends old new (take fault.written text))
