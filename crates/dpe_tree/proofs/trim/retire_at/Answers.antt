use Rattle.std.proofs.Common.{◌≡◌, List, true, sym, subst}
use Rattle.dpe_tree.specs.declared.node.State.{State}
use Rattle.dpe_tree.specs.Arena.{link_in, state_in, HaveUseBut, IsBase, IsPruned}
use Rattle.dpe_tree.proofs.trim.retire_at.Goals as goal

pub trim-requires-clause-base : goal.trim-requires-clause-base
trim-requires-clause-base c =
    let P : List State → Type 0 = λ s. IsBase c.args.links.now s c.args.free.now.items in
    subst P (sym c.end.ensures) c.requires.base

pub trim-requires-clause-place : goal.trim-requires-clause-place
trim-requires-clause-place c =
    let P : List State → Type 0 = λ s. (state_in s c.args.place).used ≡ true in
    subst P (sym c.end.ensures) c.requires.place

pub trim-requires-clause-uses : goal.trim-requires-clause-uses
trim-requires-clause-uses c =
    let P : List State → Type 0 = λ s. HaveUseBut s c.args.place in
    subst P (sym c.end.ensures) c.requires.uses

pub returns-clause-pruned : goal.returns-clause-pruned
returns-clause-pruned c =
    let P : List State → Type 0 = λ s. IsPruned (link_in c.args.links.now) (state_in s) (state_in c.trim.new.states) in
    subst P c.end.ensures c.trim.ensures.pruned
