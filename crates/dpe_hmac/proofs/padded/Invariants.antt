use Rattle.std.proofs.Common.{◌≡◌, ◌++◌, map, bit_xor, take, drop}
use Rattle.dpe_hmac.proofs.padded.Given as goal

abbrev pub invariant-loop-b : goal.invariant-loop-b
invariant-loop-b l = (l.initial.b-items ≡ l.block) × (l.b-items ≡ map (λ b. bit_xor b l.pad) (take l.b-index l.block) ++ drop l.b-index l.block)
