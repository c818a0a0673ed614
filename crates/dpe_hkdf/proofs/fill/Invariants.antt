use Rattle.std.proofs.Common.{length, ◌≡◌, ◌++◌, []}
use Rattle.std.specs.Int.{div_ceil}
use Rattle.dpe_hmac.specs.Keyed.{Holds}
use Rattle.dpe_hkdf.proofs.Blocks.{After}
use Rattle.dpe_hkdf.proofs.fill.Given as goal

abbrev pub invariant-loop-i : goal.invariant-loop-i
invariant-loop-i l = After l.prk (l.purpose ++ l.len ++ l.label) (length l.fn.out) l.i l.out l.block × (l.blocks ≡ div_ceil (length l.fn.out) 64) × Holds l.keyed l.prk []
