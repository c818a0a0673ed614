-- What contracts see of the real outside: counts alone, since files and sockets tell nothing of content.
use Rattle.std.specs.Prelude.{◌≡◌, ℕ, None}
use Rattle.std.specs.declared.option.Option.{Option}
use Rattle.std.specs.declared.time.Duration.{Duration}
use Rattle.dpe_io.specs.Told.{Kind}

-- A link: its count of failed reads, that of failed writes and flushes, and how long a read or a write of it may wait.
pub record OfLink : Type 0 where
  pub reads : ℕ
  pub writes : ℕ
  pub limit : Option Duration

-- its counts are 0
abbrev pub IsFaultless : OfLink → Type 0
IsFaultless link = (link.reads ≡ 0) × (link.writes ≡ 0)

-- its reads and writes may wait so long
abbrev pub WaitsFor : Option Duration → OfLink → Type 0
WaitsFor limit link = link.limit ≡ limit

-- A door: its count of failed calls, how many of its connections are out, and the limit that it gives them.
pub record OfDoor : Type 0 where
  pub faults : ℕ
  pub out : ℕ
  pub limit : Option Duration

-- The objects of one kind: how many were opened and how many are out, the count of failed openings, and the count of faults
-- of those handed back.
pub record Counts : Type 0 where
  pub opened : ℕ
  pub out : ℕ
  pub failed : ℕ
  pub faults : ℕ

-- nothing was opened yet
abbrev pub no_counts : Counts
no_counts = record { opened = 0; out = 0; failed = 0; faults = 0 }

-- a kind that tells nothing but these counts
abbrev pub untold : {T : Type 0} → Counts → Kind T
untold counts = record {
  unopened = None;
  back = None;
  places = None;
  opened = counts.opened;
  out = counts.out;
  failed = counts.failed;
  faults = counts.faults;
}

-- A house: its four kinds of objects, and the limit that its doors give their connections.
pub record OfHouse : Type 0 where
  pub seeds : Counts
  pub journals : Counts
  pub entropies : Counts
  pub doors : Counts
  pub limit : Option Duration

-- A dock: its two kinds of objects, and the limit of its links.
pub record OfDock : Type 0 where
  pub scripts : Counts
  pub links : Counts
  pub limit : Option Duration
