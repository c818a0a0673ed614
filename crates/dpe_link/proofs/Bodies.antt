-- What is taken where a body stops short behind a head that tells its length.
use Rattle.std.proofs.Common.{◌≡◌, ℕ, ◌+◌, ◌<◌, ◌≤◌, List, ◌++◌, length, Option, ap, ◌∙◌, refl, inr, arith}
use Rattle.std.specs.Int.{w32, from_be_bytes, to_be_bytes}
use Rattle.std.specs.Io.KnownBytes.{Consumes}
use Rattle.std.proofs.KnownBytes.{Consumes-trans}
use Rattle.std.proofs.lemmas.List.{take_at, length-append}
use Rattle.std.proofs.lemmas.Nat.{from_be_bytes-to_be_bytes_4}
use Rattle.dpe_link.specs.Frames.{told_length, IsUnfinished, in_payload}
use Rattle.dpe_link.specs.Reading.{TakesNoBody, TakesNoFrame}
use Rattle.dpe_link.specs.declared.read.FrameFault.{FrameFault}
use Rattle.dpe_link.specs.declared.read.FrameFault.TheVariants.{Cut, TooLong, ReadFault}

-- a head and less than its body are unfinished
unfinished : (told : ℕ) (part : List ℕ) → told ≤ 4096 → length part < told → IsUnfinished (to_be_bytes w32 told ++ part)
unfinished told part few less =
    let told_is : told_length (to_be_bytes w32 told ++ part) ≡ told =
    ap (from_be_bytes w32) (take_at (to_be_bytes w32 told) part 4 refl) ∙ from_be_bytes-to_be_bytes_4 told (omega arith) in
    let long : length (to_be_bytes w32 told ++ part) ≡ 4 + length part = length-append (to_be_bytes w32 told) part in
    in_payload (omega arith) (omega arith) (omega arith)

pub no_body : (a b d : Option (List ℕ)) (told size : ℕ) (fault : FrameFault) → told ≤ 4096 → size ≡ told → Consumes a b (to_be_bytes w32 told)
    → TakesNoBody b d size fault → TakesNoFrame a d fault
no_body a b d told size (Cut have) few is taken (part, body, less, long, end) = (
  to_be_bytes w32 told ++ part,
  Consumes-trans a b d (to_be_bytes w32 told) part taken body,
  unfinished told part few (omega arith),
  length-append (to_be_bytes w32 told) part ∙ long,
  end,
)
no_body a b d told size (TooLong length) few is taken h = absurd h
no_body a b d told size ReadFault few is taken (part, body, less) = (
  to_be_bytes w32 told ++ part,
  Consumes-trans a b d (to_be_bytes w32 told) part taken body,
  inr (unfinished told part few (omega arith)),
)
