-- What outside objects tell, each as one record, which the members of its trait give.
use Rattle.std.specs.Prelude.{ℕ, ◌≡◌, List, Option}
use Rattle.dpe_io.specs.Told.{Lists, Kind}
use Rattle.dpe_io.specs.declared.outside.Entropy as entropy
use Rattle.dpe_io.specs.declared.outside.Door as door
use Rattle.dpe_io.specs.declared.outside.House as house

-- An entropy: the words that it will give before zeros, where it tells them, and its count of faults.
pub record Random : Type 0 where
  pub words : Option (List (List ℕ))
  pub faults : ℕ

abbrev pub random : {E : Type 0} → entropy.Ghosts E → E → Random
random e x = record { words = e.words x; faults = e.faults x }

-- A door: the connections that wait and those that were handed back, where it tells them; its count of faults; how many
-- are out.
pub record Entrance (C : Type 0) : Type 0 where
  pub lists : Option (Lists C)
  pub faults : ℕ
  pub out : ℕ

abbrev pub entrance : {D C : Type 0} → door.Ghosts D C → D → Entrance C
entrance d x = record { lists = d.lists x; faults = d.faults x; out = d.out x }
