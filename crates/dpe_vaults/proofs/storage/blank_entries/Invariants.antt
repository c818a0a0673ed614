use Rattle.std.proofs.Common.{◌≡◌, length}
use Rattle.dpe_vaults.proofs.storage.blank_entries.Given as goal

abbrev pub invariant-loop-place : goal.invariant-loop-place
invariant-loop-place l = length l.entries.items ≡ l._place
