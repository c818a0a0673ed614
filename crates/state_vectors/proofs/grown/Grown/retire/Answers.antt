use Rattle.std.proofs.Common.{arith, refl}
use Rattle.state_vectors.proofs.Births.{retired_before}
use Rattle.state_vectors.proofs.grown.Grown.retire.Goals as goal

pub invariant_of-self : goal.invariant_of-self
invariant_of-self c =
    let i = c.self.inside in
    let was = c.self.invariant in
    let after = c.retire.ensures in
    let many = was.many in
    let most = was.most in
    let one = after.live in
    record {
      births = retired_before i.tree c.retire.new.self c.args.place.0 i.next (c.if-not-is_live.ensures.live refl) after.tree was.births;
      many = omega arith;
      most = omega arith;
    }
