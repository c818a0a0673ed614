use Rattle.std.specs.Prelude.{replicate}
use Rattle.std.proofs.Math.Logic.{∥∥₁_elim}
use Rattle.std.proofs.Props.{props}
use Rattle.dpe_hkdf.proofs.Unsalted.extract.Goals as goal

pub returns : goal.returns
returns c = ∥∥₁_elim c.args.self.now.by_zeros (hlevel props) (λ by_zeros. c.code_under.ensures (replicate 64 0) by_zeros)
