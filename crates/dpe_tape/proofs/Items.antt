-- Where bytes begin with no item, and that what was read is an item.
use Rattle.std.proofs.Common.{◌≡◌, ℕ, ◌+◌, ◌<◌, ◌≤◌, List, [], ◌∷◌, ◌++◌, length, take, drop, get_or, Option, Some, refl, sym, ap, subst, ◌∙◌, append_assoc, append-nil, inl, inr, arith}
use Rattle.std.specs.Int.{w32, to_be_bytes, from_be_bytes}
use Rattle.std.specs.Io.KnownBytes.{Consumes, IsAtEnd}
use Rattle.std.proofs.lemmas.List.{take_at, drop_at, take_all, length-append, length-take}
use Rattle.std.proofs.KnownBytes.{Consumes-trans}
use Rattle.dpe_link.specs.Frames.{frame, told_length, IsUnfinished, IsTooLong}
use Rattle.dpe_link.specs.Reading.{IsNoFrame}
use Rattle.dpe_link.proofs.Splits.{no_frame}
use Rattle.dpe_tape.specs.Tape.{Item, IsItem, item_bytes, BeginsNoItem}
use Rattle.dpe_tape.specs.Reading.{LeavesNoItem}

-- ---- an item at the front of some bytes

-- the bytes begin with this item
module _ (all : List ℕ) (item : Item) (more : List ℕ) (ok : IsItem item) (is : all ≡ item_bytes item ++ more) where
  -- the 33 bytes before the frame, and the frame
  regrouped : all ≡ (item.locality ∷ item.random) ++ (frame item.payload ++ more)
  regrouped = is ∙ append_assoc (item.locality ∷ item.random) (frame item.payload) more

  pub length_is : length all ≡ 37 + length item.payload + length more
  length_is =
      omega (
        arith,
        ap length regrouped,
        length-append (item.locality ∷ item.random) (frame item.payload ++ more),
        length-append (frame item.payload) more,
        length-append (to_be_bytes w32 (length item.payload)) item.payload,
        ok.random,
      )

  pub locality_is : get_or all 0 0 ≡ item.locality
  locality_is = ap (λ (t : List ℕ). get_or t 0 0) regrouped

  pub behind_is : drop 33 all ≡ frame item.payload ++ more
  behind_is = ap (drop 33) regrouped ∙ drop_at (item.locality ∷ item.random) (frame item.payload ++ more) 33 (omega (arith, ok.random))

-- ---- bytes that begin with no item

pub too_short : (all : List ℕ) → length all < 37 → BeginsNoItem all
too_short all short item more ok is = let long = length_is all item more ok is in omega (arith, long)

pub far_away : (all : List ℕ) → 7 < get_or all 0 0 → BeginsNoItem all
far_away all far item more ok is = let near = locality_is all item more ok is in omega (arith, near, ok.near)

-- no frame stands behind the 33 bytes
pub frameless : (front rest : List ℕ) → length front ≡ 33 → IsNoFrame rest → BeginsNoItem (front ++ rest)
frameless front rest long none item more ok is =
    no_frame rest item.payload more (elim none [ inl e ↦ inl e | inr part ↦ inr (inl part) ]) ok.payload
    (sym (drop_at front rest 33 long) ∙ behind_is (front ++ rest) item more ok is)

pub overlong : (front rest : List ℕ) → length front ≡ 33 → IsTooLong rest → BeginsNoItem (front ++ rest)
overlong front rest long big item more ok is =
    no_frame rest item.payload more (inr (inr big)) ok.payload (sym (drop_at front rest 33 long) ∙ behind_is (front ++ rest) item more ok is)

-- ---- what a read leaves

pub at_end : (left : Option (List ℕ)) (rest : List ℕ) → IsAtEnd left → left ≡ Some rest → rest ≡ []
at_end left rest end is = let h : IsAtEnd (Some rest) = subst IsAtEnd is end in h

-- bytes that begin with no item, and nothing behind them
pub at_the_end : (left : Option (List ℕ)) (part : List ℕ) → IsAtEnd left → BeginsNoItem part → LeavesNoItem left part
at_the_end left part end none rest is =
    subst BeginsNoItem (sym (ap (λ (t : List ℕ). part ++ t) (at_end left rest end is) ∙ append-nil part)) none

pub short_front : (left : Option (List ℕ)) (front : List ℕ) (count : ℕ) → IsAtEnd left → count < 33 → LeavesNoItem left (take count front)
short_front left front count end few = at_the_end left (take count front) end (too_short (take count front) (omega (arith, length-take count front)))

pub far_front : (left : Option (List ℕ)) (front : List ℕ) → 7 < get_or front 0 0 → 0 < length front → LeavesNoItem left front
far_front left [] far some rest is = absurd (omega arith)
far_front left (x ∷ front) far some rest is = far_away (x ∷ (front ++ rest)) far

-- a head that tells too much does so whatever follows it
still_long : (head rest : List ℕ) (told : ℕ) → length head ≡ 4 → told_length head ≡ told → 4096 < told → IsTooLong (head ++ rest)
still_long head rest told four tells far =
    let same : told_length (head ++ rest) ≡ told_length head = ap (from_be_bytes w32) (take_at head rest 4 four ∙ sym (take_all 4 head (omega (arith, four)))) in
    record { head = omega (arith, length-append head rest, four); long = omega (arith, same, tells, far) }

module _ (a b d : Option (List ℕ)) (front : List ℕ) (long : length front ≡ 33) (taken : Consumes a b front) where
  pub no_frame_behind : Consumes b d [] → IsAtEnd d → (part : List ℕ) × Consumes a d part × (0 < length part) × LeavesNoItem d part
  no_frame_behind nothing end = (
    front ++ [],
    Consumes-trans a b d front [] taken nothing,
    omega (arith, length-append front []),
    at_the_end d (front ++ []) end (frameless front [] long (inl refl)),
  )

  pub cut_behind : (part : List ℕ) → Consumes b d part → IsUnfinished part → IsAtEnd d → (whole : List ℕ) × Consumes a d whole × (0 < length whole) × LeavesNoItem d whole
  cut_behind part consumed unfinished end = (
    front ++ part,
    Consumes-trans a b d front part taken consumed,
    omega (arith, length-append front part),
    at_the_end d (front ++ part) end (frameless front part long (inr unfinished)),
  )

  pub long_behind : (head : List ℕ) (told : ℕ) → Consumes b d head → length head ≡ 4 → told_length head ≡ told → 4096 < told
      → (whole : List ℕ) × Consumes a d whole × (0 < length whole) × LeavesNoItem d whole
  long_behind head told consumed four tells far = (
    front ++ head,
    Consumes-trans a b d front head taken consumed,
    omega (arith, length-append front head),
    λ rest is. subst BeginsNoItem (sym (append_assoc front head rest)) (overlong front (head ++ rest) long (still_long head rest told four tells far)),
  )

  pub fault_behind : (part : List ℕ) → Consumes b d part → IsNoFrame part → (whole : List ℕ) × Consumes a d whole × BeginsNoItem whole
  fault_behind part consumed none = (front ++ part, Consumes-trans a b d front part taken consumed, frameless front part long none)

-- ---- an item that was read

-- the 33 bytes and the frame are the item's bytes
pub whole_item : (a b d : Option (List ℕ)) (front random payload : List ℕ) → length front ≡ 33 → get_or front 0 0 ≤ 7 → random ≡ take 32 (drop 1 front) → length payload ≤ 4096
    → Consumes a b front → Consumes b d (frame payload)
    → let item : Item = record { locality = get_or front 0 0; random = random; payload = payload } in IsItem item × Consumes a d (item_bytes item)
whole_item a b d [] random payload long near random_is short first second = absurd (omega arith)
whole_item a b d (x ∷ front) random payload long near random_is short first second =
    let rest : random ≡ front = random_is ∙ take_all 32 front (omega (arith, long)) in (
      record { near = near; random = omega (arith, ap length rest, long); payload = short },
      subst (λ (r : List ℕ). Consumes a d ((x ∷ r) ++ frame payload)) (sym rest) (Consumes-trans a b d (x ∷ front) (frame payload) first second),
    )
