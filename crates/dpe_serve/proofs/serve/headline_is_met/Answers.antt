use Rattle.std.proofs.Common.{[]}
use Rattle.dpe_serve.specs.Smallest.{seed}
use Rattle.dpe_serve.proofs.Smallest.{smallest, legal}
use Rattle.dpe_serve.proofs.serve.headline_is_met.Goals as goal

pub returns : goal.returns
returns c = smallest (c.folded_inputs.ensures seed 1 [] legal) (c.handle_laws.ensures seed 1 [] legal)
