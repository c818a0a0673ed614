-- What is to be done with a journal.
use Rattle.std.specs.Prelude.{ℕ, List, []}
use Rattle.dpe_audit.specs.Listing as listed
use Rattle.dpe_audit.specs.Mode.{Mode}
use Rattle.dpe_audit.specs.Verdicts as viewed
use Rattle.dpe_audit.specs.declared.audit.Task.{Task}
use Rattle.dpe_audit.specs.declared.audit.Task.TheVariants.{Judge, Print}

abbrev pub mode_of : Task → Mode
mode_of (Judge view seed) = viewed.mode_of view
mode_of (Print choice) = listed.mode_of choice

-- the seed, where one is needed
abbrev pub seed_of : Task → List ℕ
seed_of (Judge view seed) = seed
seed_of (Print choice) = []
