use Rattle.std.proofs.Common.{ℕ, List, refl, subst, Contains}
use Rattle.dpe_io.specs.Memory.{Drawing}
use Rattle.dpe_io.proofs.entropy.MemEntropyEntropy.draw.Goals as goal

pub returns-then-call_fails-clause-fails : goal.returns-then-call_fails-clause-fails
returns-then-call_fails-clause-fails c = (
  λ _. subst (λ (e : Drawing). Contains e.failing e.calls) c.self.view_is
      (subst (λ (listed : List ℕ). Contains listed c.self.inside.calls) c.deref.ensures.value (c.call_fails.ensures.fails.0 c.if-call_fails.true)),
  λ _. refl,
)
