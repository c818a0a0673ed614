-- What outside objects tell of themselves, where they do, and what a call makes of it.
use Rattle.std.specs.Prelude.{◌≡◌, ℕ, ◌+◌, ◌<◌, ◌≤◌, List, [], ◌∷◌, ◌++◌, ⊤, Option, Some, None, Result, MatchResult, MatchOption}
use mathlib.Core.List.{replicate}
use Rattle.dpe_io.specs.Causes.{Rose}

-- a fact about what is told before and after, where it is told
abbrev pub IfTold : {A : Type 0} → (A → A → Type 0) → Option A → Option A → Type 0
IfTold P None new = ⊤
IfTold P (Some x) None = ⊥
IfTold P (Some x) (Some y) = P x y

-- ## Two-way objects

-- A two-way object: the bytes left to read and those that were written, where it tells them; the counts of failed reads
-- and of failed writes.
pub record Told : Type 0 where
  pub left : Option (List ℕ)
  pub written : Option (List ℕ)
  pub read_faults : ℕ
  pub write_faults : ℕ

-- no count changed
abbrev pub KeepsCounts : Told → Told → Type 0
KeepsCounts old new = (new.read_faults ≡ old.read_faults) × (new.write_faults ≡ old.write_faults)

-- ## Words of an entropy

-- the first of the words, and zeros where none is left
abbrev pub word : List (List ℕ) → List ℕ
word [] = replicate 32 0
word (w ∷ ws) = w

abbrev pub later : List (List ℕ) → List (List ℕ)
later [] = []
later (w ∷ ws) = ws

-- the room has the first of the words, and the later ones are left
abbrev pub Draws : Option (List (List ℕ)) → Option (List (List ℕ)) → List ℕ → Type 0
Draws old new room = IfTold (λ ws left. (room ≡ word ws) × (left ≡ later ws)) old new

-- ## Connections of a door

-- those that wait, and those that were handed back
pub record Lists (C : Type 0) : Type 0 where
  pub waiting : List C
  pub ended : List C

module _ {C : Type 0} where
  -- None waits for good. Only a door that tells its connections says so: one that doesn't never answers `None`.
  abbrev pub NoneWaits : Option (Lists C) → Type 0
  NoneWaits None = ⊥
  NoneWaits (Some l) = l.waiting ≡ []

  -- the first that waits goes out
  abbrev pub GoesOut : Option (Lists C) → C → Option (Lists C) → Type 0
  GoesOut old conn new = IfTold (λ l m. (l.waiting ≡ conn ∷ m.waiting) × (m.ended ≡ l.ended)) old new

  -- an ended one comes back
  abbrev pub ComesBack : Option (Lists C) → C → Option (Lists C) → Type 0
  ComesBack old conn new = IfTold (λ l m. (m.waiting ≡ l.waiting) × (m.ended ≡ l.ended ++ conn ∷ [])) old new

  -- what `next` makes of the lists
  abbrev pub GivesNext : {E : Type 0} → Option (Lists C) → Option (Lists C) → Result (Option C) E → Type 0
  GivesNext old new result =
      MatchResult result
      (λ given. MatchOption given (NoneWaits old × (new ≡ old)) (λ conn. GoesOut old conn new))
      (λ _. new ≡ old)

-- one more is out where a connection was given
abbrev pub CountsOut : {C E : Type 0} → ℕ → ℕ → Result (Option C) E → Type 0
CountsOut before now result =
    MatchResult result (λ given. MatchOption given (now ≡ before) (λ _. now ≡ before + 1)) (λ _. now ≡ before)

-- ## Objects that are opened and handed back

-- One kind of objects of a house, a shelf or a dock: those not yet opened and those handed back, where they are told, and
-- at which place each was handed back; how many were opened and how many are out; the count of failed openings, and the
-- count of faults of those handed back.
pub record Kind (T : Type 0) : Type 0 where
  pub unopened : Option (List T)
  pub back : Option (List T)
  pub places : Option (List ℕ)
  pub opened : ℕ
  pub out : ℕ
  pub failed : ℕ
  pub faults : ℕ

-- what is told, with one more behind it
abbrev pub with_last : {A : Type 0} → Option (List A) → A → Option (List A)
with_last None x = None
with_last (Some xs) x = Some (xs ++ x ∷ [])

module _ {T : Type 0} where
  -- none was opened yet
  abbrev pub all_unopened : List T → Kind T
  all_unopened objects = record {
    unopened = Some objects;
    back = Some [];
    places = Some [];
    opened = 0;
    out = 0;
    failed = 0;
    faults = 0;
  }

  -- the next object is opened
  pub record Opens (old : Kind T) (object : T) (new : Kind T) : Type 0 where
    pub next : IfTold (λ xs ys. xs ≡ object ∷ ys) old.unopened new.unopened
    pub back : new.back ≡ old.back
    pub places : new.places ≡ old.places
    pub opened : new.opened ≡ old.opened + 1
    pub out : new.out ≡ old.out + 1
    pub failed : new.failed ≡ old.failed
    pub faults : new.faults ≡ old.faults

  -- an opening failed: the count of failed openings rose, and nothing else changed
  pub record OpensNone (old new : Kind T) : Type 0 where
    pub rose : Rose old.failed new.failed
    pub later : old.failed ≤ new.failed
    pub others : new ≡ record old { failed = new.failed }

  -- what an opening makes of its kind
  abbrev pub IsOpening : {E : Type 0} → Kind T → Kind T → Result T E → Type 0
  IsOpening old new result = MatchResult result (λ object. Opens old object new) (λ _. OpensNone old new)

  -- an object with so many faults is handed back
  pub record Returns (old : Kind T) (count : ℕ) (object : T) (new : Kind T) : Type 0 where
    pub unopened : new.unopened ≡ old.unopened
    pub back : new.back ≡ with_last old.back object
    pub opened : new.opened ≡ old.opened
    pub out : new.out + 1 ≡ old.out
    pub failed : new.failed ≡ old.failed
    pub faultless : count ≡ 0 → new.faults ≡ old.faults
    pub faulty : 0 < count → Rose old.faults new.faults
    pub later : old.faults ≤ new.faults

  -- the place is kept behind those of the objects handed back before
  abbrev pub Placed : Kind T → ℕ → Kind T → Type 0
  Placed old place new = new.places ≡ with_last old.places place

  -- the places stay as they were
  abbrev pub KeepsPlaces : Kind T → Kind T → Type 0
  KeepsPlaces old new = new.places ≡ old.places
