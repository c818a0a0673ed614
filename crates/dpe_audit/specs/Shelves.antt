-- Files that a shelf opens and gets back.
use Rattle.std.specs.Prelude.{ℕ, ◌≡◌, ◌≢◌, ◌≤◌, ◌⊎◌, List, length, Option, Some}
use Rattle.std.specs.Io.KnownBytes.{Consumes}
use Rattle.dpe_io.specs.Causes.{Rose}
use Rattle.dpe_io.specs.Told.{Kind, Opens, OpensNone, Returns, Placed}
use Rattle.dpe_audit.specs.declared.seed.SeedFile.{SeedFile}
use Rattle.dpe_audit.specs.declared.seed.SeedFile.TheVariants.{Holds, WrongSize, Unread}

-- A file was opened with the count 0, and handed back with its place, as it was then. It counts its faults.
pub record Lends {T : Type 0} (faults : T → ℕ) (old : Kind T) (place : ℕ) (file after : T) (new : Kind T) : Type 0 where
  pub lent : Kind T
  pub opens : Opens old file lent
  pub faultless : faults file ≡ 0
  pub back : Returns lent (faults after) after new
  pub placed : Placed lent place new

-- at most 33 bytes were taken, of a source that tells what is left
abbrev pub TakesFew : Option (List ℕ) → Option (List ℕ) → Type 0
TakesFew old new = (part : List ℕ) × Consumes old new part × (length part ≤ 33)

-- the seed's file has these 32 bytes
pub record HasSeed {T : Type 0} (left : T → Option (List ℕ)) (faults : T → ℕ) (old new : Kind T) (seed : List ℕ) : Type 0 where
  pub file : T
  pub after : T
  pub lends : Lends faults old 0 file after new
  pub kept : faults after ≡ 0
  pub few : TakesFew (left file) (left after)
  pub size : length seed ≡ 32
  pub bytes : (bytes : List ℕ) → left file ≡ Some bytes → bytes ≡ seed

-- the seed's file hasn't 32 bytes
pub record HasWrongSize {T : Type 0} (left : T → Option (List ℕ)) (faults : T → ℕ) (old new : Kind T) : Type 0 where
  pub file : T
  pub after : T
  pub lends : Lends faults old 0 file after new
  pub kept : faults after ≡ 0
  pub few : TakesFew (left file) (left after)
  pub size : (bytes : List ℕ) → left file ≡ Some bytes → length bytes ≢ 32

-- the seed's file couldn't be read
pub record IsUnread {T : Type 0} (left : T → Option (List ℕ)) (faults : T → ℕ) (old new : Kind T) : Type 0 where
  pub file : T
  pub after : T
  pub lends : Lends faults old 0 file after new
  pub rose : Rose 0 (faults after)
  pub few : TakesFew (left file) (left after)

-- the seed's file couldn't be opened or read
abbrev pub HasNoSeed : {T : Type 0} → (T → Option (List ℕ)) → (T → ℕ) → Kind T → Kind T → Type 0
HasNoSeed left faults old new = OpensNone old new ⊎ IsUnread left faults old new

abbrev pub ReadsSeed : {T : Type 0} → (T → Option (List ℕ)) → (T → ℕ) → Kind T → Kind T → SeedFile → Type 0
ReadsSeed left faults old new (Holds seed) = HasSeed left faults old new seed
ReadsSeed left faults old new WrongSize = HasWrongSize left faults old new
ReadsSeed left faults old new Unread = HasNoSeed left faults old new

-- What a source that tells its bytes gave: a seed, which is all of them; other than 32 bytes; or some, until it failed.
abbrev pub GivesSeed : Option (List ℕ) → SeedFile → Type 0
GivesSeed left (Holds seed) = (length seed ≡ 32) × ((bytes : List ℕ) → left ≡ Some bytes → bytes ≡ seed)
GivesSeed left WrongSize = (bytes : List ℕ) → left ≡ Some bytes → length bytes ≢ 32
GivesSeed left Unread = Unit {0}

abbrev pub HasSeedCause : ℕ → ℕ → SeedFile → Type 0
HasSeedCause before now (Holds seed) = now ≡ before
HasSeedCause before now WrongSize = now ≡ before
HasSeedCause before now Unread = Rose before now
