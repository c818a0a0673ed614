use Rattle.std.proofs.Common.{◌≡◌, ◌<◌, ◌-◌, ◌∙◌, ℕ, List, true, inr, sym, ap, subst, subst₂, arith, slice_set}
use native.Mathlib.Decide.{ℕ_discrete}
use Rattle.dpe_tree.specs.declared.node.State.{State}
use Rattle.dpe_tree.specs.Arena.{link_in, state_in, with_children, HasUse, HaveUse, HaveUseBut, IsBase, IsPruned}
use Rattle.dpe_tree.proofs.Releasing.{room, last_base, last_pruned, last_uses, parent_has, left_base, left_pruned, left_uses, left_parent}
use Rattle.dpe_tree.proofs.trim.trim.Goals as goal

pub give_back-requires : goal.give_back-requires
give_back-requires c =
    let i = c.loop-states.invariant in
    let few = room c.args.links.now c.args.states.now c.loop-states.states c.loop-states.free.items i.base i.pruned c.loop-states.at i.place i.uses c.loop-states-test.true c.if-states-at-eq0.true in
    let same = i.room in
    let room = c.requires.room in
    omega arith

pub returns-then-links-at-eq0-clause-base : goal.returns-then-links-at-eq0-clause-base
returns-then-links-at-eq0-clause-base c =
    let i = c.loop-states.invariant in
    let P : List State → List ℕ → Type 0 = λ s f. IsBase c.args.links.now s f in
    subst₂ P (sym c.release.ensures) (sym c.give_back.ensures.places)
    (last_base c.args.links.now c.args.states.now c.loop-states.states c.loop-states.free.items i.base i.pruned c.loop-states.at i.place i.uses c.loop-states-test.true c.if-states-at-eq0.true c.if-links-at-eq0.true)

pub returns-then-links-at-eq0-clause-uses : goal.returns-then-links-at-eq0-clause-uses
returns-then-links-at-eq0-clause-uses c =
    let i = c.loop-states.invariant in
    subst HaveUse (sym c.release.ensures)
    (last_uses c.args.links.now c.args.states.now c.loop-states.states c.loop-states.free.items i.base i.pruned c.loop-states.at i.place i.uses c.loop-states-test.true c.if-states-at-eq0.true c.if-links-at-eq0.true)

pub returns-then-links-at-eq0-clause-pruned : goal.returns-then-links-at-eq0-clause-pruned
returns-then-links-at-eq0-clause-pruned c =
    let i = c.loop-states.invariant in
    let P : List State → Type 0 = λ s. IsPruned (link_in c.args.links.now) (state_in c.args.states.now) (state_in s) in
    subst P (sym c.release.ensures)
    (last_pruned c.args.links.now c.args.states.now c.loop-states.states c.loop-states.free.items i.base i.pruned c.loop-states.at i.place i.uses c.loop-states-test.true c.if-states-at-eq0.true c.if-links-at-eq0.true)

pub lose_child-requires-clause-child : goal.lose_child-requires-clause-child
lose_child-requires-clause-child c =
    let i = c.loop-states.invariant in
    let P : List State → Type 0 = λ s. 0 < (state_in s (link_in c.args.links.now c.loop-states.at).parent).children in
    subst P (sym c.release.ensures)
    (parent_has c.args.links.now c.args.states.now c.loop-states.states c.loop-states.free.items i.base i.pruned c.loop-states.at i.place i.uses c.loop-states-test.true c.if-states-at-eq0.true c.if-links-at-eq0.false)

pub loop-states-preserved : goal.loop-states-preserved
loop-states-preserved c =
    let i = c.loop-states.invariant in
    let parent = (link_in c.args.links.now c.loop-states.at).parent in
    let less : List State → List State = λ s. slice_set s parent (with_children (state_in s parent) ((state_in s parent).children - 1)) in
    let now = c.lose_child.ensures ∙ ap less c.release.ensures in
    let Base : List State → List ℕ → Type 0 = λ s f. IsBase c.args.links.now s f in
    let Used : List State → Type 0 = λ s. (state_in s parent).used ≡ true in
    let Uses : List State → Type 0 = λ s. HaveUseBut s parent in
    let Pruned : List State → Type 0 = λ s. IsPruned (link_in c.args.links.now) (state_in c.args.states.now) (state_in s) in
    let capacity_is = c.give_back.ensures.capacity in
    let before = i.room in
    record {
      base = subst₂ Base (sym now) (sym c.give_back.ensures.places)
          (left_base c.args.links.now c.args.states.now c.loop-states.states c.loop-states.free.items i.base i.pruned c.loop-states.at i.place i.uses c.loop-states-test.true c.if-states-at-eq0.true c.if-links-at-eq0.false);
      place = subst Used (sym now)
          (left_parent c.args.links.now c.args.states.now c.loop-states.states c.loop-states.free.items i.base i.pruned c.loop-states.at i.place i.uses c.loop-states-test.true c.if-states-at-eq0.true c.if-links-at-eq0.false).0;
      uses = subst Uses (sym now)
          (left_uses c.args.links.now c.args.states.now c.loop-states.states c.loop-states.free.items i.base i.pruned c.loop-states.at i.place i.uses c.loop-states-test.true c.if-states-at-eq0.true c.if-links-at-eq0.false);
      pruned = subst Pruned (sym now)
          (left_pruned c.args.links.now c.args.states.now c.loop-states.states c.loop-states.free.items i.base i.pruned c.loop-states.at i.place i.uses c.loop-states-test.true c.if-states-at-eq0.true c.if-links-at-eq0.false);
      room = omega arith;
    }

pub returns-else-states-at-eq0-clause-uses : goal.returns-else-states-at-eq0-clause-uses
returns-else-states-at-eq0-clause-uses c p used =
    elim (ℕ_discrete p c.loop-states.at) [
      | yes here ↦ subst (λ i. HasUse (state_in c.loop-states.states i)) (sym here) (inr (let some = c.if-states-at-eq0.false in omega arith))
      | no apart ↦ c.loop-states.invariant.uses p used apart
    ]
