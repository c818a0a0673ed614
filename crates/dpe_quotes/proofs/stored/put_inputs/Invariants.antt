use Rattle.std.proofs.Common.{◌≡◌, length, take}
use Rattle.dpe_quotes.specs.Stored.{first_inputs}
use Rattle.dpe_quotes.proofs.stored.put_inputs.Given as goal

abbrev pub invariant-loop-layer : goal.invariant-loop-layer
invariant-loop-layer l = (take l.layer l.path ≡ first_inputs l.layer l.bytes) × (length l.path ≡ 32)
