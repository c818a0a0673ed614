use Rattle.std.proofs.Common.{◌≡◌, replicate, []}
use Rattle.dpe_vaults.proofs.vault.blank_tables.Given as goal

abbrev pub invariant-loop-locality : goal.invariant-loop-locality
invariant-loop-locality l = l.tables.items ≡ replicate l._locality []
