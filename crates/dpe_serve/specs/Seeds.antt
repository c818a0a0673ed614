-- The seed of a house.
use Rattle.std.specs.Prelude.{ℕ, ◌≤◌, ◌≡◌, ◌≢◌, ◌⊎◌, List, length, Option, Some}
use Rattle.std.specs.Io.KnownBytes.{Consumes}
use Rattle.dpe_io.specs.Causes.{Rose}
use Rattle.dpe_io.specs.Told.{Kind, OpensNone}
use Rattle.dpe_serve.specs.Lending.{LendsOne}
use Rattle.dpe_serve.specs.declared.seed.SeedRead.{SeedRead}
use Rattle.dpe_serve.specs.declared.seed.SeedRead.TheVariants.{Holds, WrongSize, Unread}

-- What a source that tells its bytes gave: 32 bytes, which are all of them; other than 32; or some, until a read failed.
abbrev pub GivesSeed : Option (List ℕ) → SeedRead → Type 0
GivesSeed left (Holds seed) = (length seed ≡ 32) × ((bytes : List ℕ) → left ≡ Some bytes → bytes ≡ seed)
GivesSeed left WrongSize = (bytes : List ℕ) → left ≡ Some bytes → length bytes ≢ 32
GivesSeed left Unread = Unit {0}

-- At most 33 bytes of the source were taken: where it tells its bytes, those left before are a front of at most 33 bytes, and
-- behind it those left after.
abbrev pub TakesFew : Option (List ℕ) → Option (List ℕ) → Type 0
TakesFew before after = (front : List ℕ) × Consumes before after front × (length front ≤ 33)

-- the source's count rose just where a read failed
abbrev pub HasSeedCause : ℕ → ℕ → SeedRead → Type 0
HasSeedCause before now (Holds seed) = now ≡ before
HasSeedCause before now WrongSize = now ≡ before
HasSeedCause before now Unread = Rose before now

module _ {S : Type 0} (left : S → Option (List ℕ)) (faults : S → ℕ) where
  -- the seed was opened and handed back with no fault, and has these 32 bytes
  pub record HasSeed (old new : Kind S) (seed : List ℕ) : Type 0 where
    pub source : S
    pub after : S
    pub lends : LendsOne faults old source after new
    pub few : TakesFew (left source) (left after)
    pub kept : faults after ≡ 0
    pub size : length seed ≡ 32
    pub bytes : (bytes : List ℕ) → left source ≡ Some bytes → bytes ≡ seed

  -- the seed was opened and handed back with no fault, and hasn't 32 bytes
  pub record HasWrongSize (old new : Kind S) : Type 0 where
    pub source : S
    pub after : S
    pub lends : LendsOne faults old source after new
    pub few : TakesFew (left source) (left after)
    pub kept : faults after ≡ 0
    pub size : (bytes : List ℕ) → left source ≡ Some bytes → length bytes ≢ 32

  -- the seed was opened and handed back, and a read of it failed
  pub record IsUnread (old new : Kind S) : Type 0 where
    pub source : S
    pub after : S
    pub lends : LendsOne faults old source after new
    pub few : TakesFew (left source) (left after)
    pub rose : Rose 0 (faults after)

  -- the seed couldn't be opened or read
  abbrev pub HasNoSeed : Kind S → Kind S → Type 0
  HasNoSeed old new = OpensNone old new ⊎ IsUnread old new

  abbrev pub ReadsSeed : Kind S → Kind S → SeedRead → Type 0
  ReadsSeed old new (Holds seed) = HasSeed old new seed
  ReadsSeed old new WrongSize = HasWrongSize old new
  ReadsSeed old new Unread = HasNoSeed old new
