use Rattle.std.proofs.Common.{rules, ◌≡◌, ◌+◌, ◌++◌, ◌∷◌, [], ℕ, List, sym, subst, arith}
use Rattle.dpe_tree.specs.Arena.{AreBelow}
use Rattle.dpe_tree.proofs.Rooting.{none_below, one_more_below}
use Rattle.dpe_tree.proofs.fresh.places_below.Goals as goal

pub loop-place-init : goal.loop-place-init
loop-place-init c =
    let P : List ℕ → Type 0 = λ xs. AreBelow xs 0 in
    let capacity_is = c.in_ok-places.ensures.capacity in
    record { below = subst P (sym c.in_ok-places.ensures.items) none_below; room = omega arith }

pub loop-place-preserved : goal.loop-place-preserved
loop-place-preserved c =
    let i = c.loop-place.invariant in
    let e : c.push.new.self.items ≡ c.loop-place.places.items ++ c.loop-place.place ∷ [] = search rules in
    let before = i.room in
    let capacity_is = c.in_ok-push.ensures.capacity in
    let P : List ℕ → Type 0 = λ xs. AreBelow xs (c.loop-place.place + 1) in
    record { below = subst P (sym e) (one_more_below c.loop-place.places.items c.loop-place.place i.below); room = omega arith }
