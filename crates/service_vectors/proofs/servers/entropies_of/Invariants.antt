use Rattle.std.specs.Prelude.{All, ◌≡◌}
use Rattle.service_vectors.proofs.servers.entropies_of.Given as goal

abbrev pub invariant-loop-place : goal.invariant-loop-place
invariant-loop-place l = All (λ entropy. entropy.faults ≡ 0) l.entropies.items
