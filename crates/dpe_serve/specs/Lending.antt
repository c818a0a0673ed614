-- Objects of one kind that a house opens and gets back, several in order.
use Rattle.std.specs.Prelude.{ℕ, zero, suc, ◌+◌, ◌<◌, ◌≤◌, ◌≡◌, List, [], ◌∷◌, ◌++◌, ◌⊎◌, length, Option, Some, None}
use Rattle.std.specs.List.{AllByRecursion}
use Rattle.dpe_io.specs.Causes.{Rose}
use Rattle.dpe_io.specs.Told.{IfTold, Kind, OpensNone}

-- what is told, with more behind it
abbrev pub with_all : {A : Type 0} → Option (List A) → List A → Option (List A)
with_all None more = None
with_all (Some xs) more = Some (xs ++ more)

-- so many numbers, from this one on
abbrev pub numbers_from : ℕ → ℕ → List ℕ
numbers_from place zero = []
numbers_from place (suc count) = place ∷ numbers_from (place + 1) count

module _ {T : Type 0} where
  -- these objects were opened, in order
  pub record OpensAll (old : Kind T) (objects : List T) (new : Kind T) : Type 0 where
    pub next : IfTold (λ xs ys. xs ≡ objects ++ ys) old.unopened new.unopened
    pub back : new.back ≡ old.back
    pub places : new.places ≡ old.places
    pub opened : new.opened ≡ old.opened + length objects
    pub out : new.out ≡ old.out + length objects
    pub failed : new.failed ≡ old.failed
    pub faults : new.faults ≡ old.faults

  -- these objects were opened, in order, and then an opening failed
  abbrev pub OpensUntil : Kind T → List T → Kind T → Type 0
  OpensUntil old objects new = (between : Kind T) × OpensAll old objects between × OpensNone between new

  -- none of the objects has a fault
  abbrev pub HaveNoFault : (T → ℕ) → List T → Type 0
  HaveNoFault faults objects = AllByRecursion (λ x. faults x ≡ 0) objects

  -- one of the objects has a fault
  abbrev pub HaveFault : (T → ℕ) → List T → Type 0
  HaveFault faults [] = ⊥
  HaveFault faults (x ∷ xs) = (0 < faults x) ⊎ HaveFault faults xs

  -- these objects were handed back, in order
  pub record ReturnsAll (faults : T → ℕ) (old : Kind T) (objects : List T) (new : Kind T) : Type 0 where
    pub unopened : new.unopened ≡ old.unopened
    pub back : new.back ≡ with_all old.back objects
    pub opened : new.opened ≡ old.opened
    pub out : new.out + length objects ≡ old.out
    pub failed : new.failed ≡ old.failed
    pub faultless : HaveNoFault faults objects → new.faults ≡ old.faults
    pub faulty : HaveFault faults objects → Rose old.faults new.faults
    pub later : old.faults ≤ new.faults

  -- each with its place, from this one on
  abbrev pub PlacedFrom : Kind T → ℕ → ℕ → Kind T → Type 0
  PlacedFrom old place count new = new.places ≡ with_all old.places (numbers_from place count)

  -- Objects were opened, and handed back as they then were, both in order. The count of the faults of those handed back rose
  -- where one of them has some, and stayed where none has.
  pub record Lends (faults : T → ℕ) (old : Kind T) (objects after : List T) (new : Kind T) : Type 0 where
    pub next : IfTold (λ xs ys. xs ≡ objects ++ ys) old.unopened new.unopened
    pub back : new.back ≡ with_all old.back after
    pub number : length after ≡ length objects
    pub opened : new.opened ≡ old.opened + length objects
    pub out : new.out ≡ old.out
    pub faultless : HaveNoFault faults after → new.faults ≡ old.faults
    pub faulty : HaveFault faults after → Rose old.faults new.faults

  -- the same, with no failed opening, and with the place of each
  pub record LendsAll (faults : T → ℕ) (old : Kind T) (objects after : List T) (new : Kind T) : Type 0 where
    pub lends : Lends faults old objects after new
    pub places : PlacedFrom old 0 (length objects) new
    pub failed : new.failed ≡ old.failed

  -- the same, for one object that has no place
  pub record LendsOne (faults : T → ℕ) (old : Kind T) (object after : T) (new : Kind T) : Type 0 where
    pub lends : Lends faults old (object ∷ []) (after ∷ []) new
    pub places : new.places ≡ old.places
    pub failed : new.failed ≡ old.failed

  -- the same, untouched, up to a failed opening
  pub record LendsUntil (faults : T → ℕ) (old : Kind T) (objects : List T) (new : Kind T) : Type 0 where
    pub lends : Lends faults old objects objects new
    pub places : PlacedFrom old 0 (length objects) new
    pub rose : Rose old.failed new.failed
