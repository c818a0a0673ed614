use Rattle.std.proofs.Common.{◌≡◌, ◌<◌, ◌+◌, ◌++◌, None, List, true, sym, subst, subst₂, arith, length, take, drop}
use Rattle.dpe_tree.specs.declared.node.Link.{Link}
use Rattle.dpe_tree.specs.declared.node.State.{State}
use Rattle.dpe_tree.specs.Tree.{IsTrimmed, SameElsewhere, context, ended, live_count}
use Rattle.dpe_tree.specs.Arena.{stopped, link_in, state_in, nodes, HaveUseBut, IsBase, IsArena, IsPruned}
use Rattle.dpe_tree.proofs.Adding.{written}
use Rattle.dpe_tree.proofs.Retiring.{place_within, base_stopped, used_stopped, uses_stopped, arena_left, trimmed, gone, others, live_left}
use Rattle.dpe_tree.proofs.tree.Tree.retire.Goals as goal

pub retire_at-requires-clause-within : goal.retire_at-requires-clause-within
retire_at-requires-clause-within c =
    let P : List State → Type 0 = λ s. c.args.place.0 < length s in
    subst P (sym c.deref_mut.ensures.value) (place_within c.self.inside.links.items c.self.inside.states.items c.self.inside.free.items c.self.invariant.0 c.args.self.now c.self.view_is
    c.args.place.0 c.requires)

pub retire_at-requires-clause-base : goal.retire_at-requires-clause-base
retire_at-requires-clause-base c =
    let P : List Link → List State → Type 0 = λ l s. IsBase l (stopped s c.args.place.0) c.self.inside.free.items in
    subst₂ P (sym c.deref.ensures.value) (sym c.deref_mut.ensures.value) (base_stopped c.self.inside.links.items c.self.inside.states.items c.self.inside.free.items c.self.invariant.0 c.args.self.now c.self.view_is
    c.args.place.0 c.requires)

pub retire_at-requires-clause-place : goal.retire_at-requires-clause-place
retire_at-requires-clause-place c =
    let P : List State → Type 0 = λ s. (state_in (stopped s c.args.place.0) c.args.place.0).used ≡ true in
    subst P (sym c.deref_mut.ensures.value) (used_stopped c.self.inside.links.items c.self.inside.states.items c.self.inside.free.items c.self.invariant.0 c.args.self.now c.self.view_is
    c.args.place.0 c.requires)

pub retire_at-requires-clause-uses : goal.retire_at-requires-clause-uses
retire_at-requires-clause-uses c =
    let P : List State → Type 0 = λ s. HaveUseBut (stopped s c.args.place.0) c.args.place.0 in
    subst P (sym c.deref_mut.ensures.value) (uses_stopped c.self.inside.links.items c.self.inside.states.items c.self.inside.free.items c.self.invariant.0 c.args.self.now c.self.view_is
    c.args.place.0 c.requires)

pub invariant_of-self : goal.invariant_of-self
invariant_of-self c =
    let now : take c.self.inside.states.len (c.retire_at.new.states ++ drop (length c.retire_at.new.states) c.self.inside.states.items) ≡ c.retire_at.new.states =
    written c.self.inside.states.items c.retire_at.new.states c.self.inside.states.len (let e = c.retire_at.auto.states in let f = c.deref_mut.ensures.len in omega arith) in
    let base : IsBase c.self.inside.links.items c.retire_at.new.states c.retire_at.new.free.items =
    subst (λ l. IsBase l c.retire_at.new.states c.retire_at.new.free.items) c.deref.ensures.value c.retire_at.ensures.base in
    let pruned : IsPruned (link_in c.self.inside.links.items) (state_in (stopped c.self.inside.states.items c.args.place.0)) (state_in c.retire_at.new.states) =
    subst₂ (λ l s. IsPruned (link_in l) (state_in (stopped s c.args.place.0)) (state_in c.retire_at.new.states)) c.deref.ensures.value c.deref_mut.ensures.value c.retire_at.ensures.pruned in
    let P : List State → Type 0 = λ s. IsArena c.self.inside.links.items s c.retire_at.new.free.items in (
      subst P (sym now) (arena_left c.self.inside.links.items c.self.inside.states.items c.self.inside.free.items c.self.invariant.0 c.args.self.now c.self.view_is
          c.args.place.0 c.requires c.retire_at.new.states c.retire_at.new.free.items base c.retire_at.ensures.uses pruned),
      (let room = c.self.invariant.1 in let same = c.retire_at.ensures.room in omega arith),
    )

pub returns-clause-tree : goal.returns-clause-tree
returns-clause-tree c =
    let now : take c.self.inside.states.len (c.retire_at.new.states ++ drop (length c.retire_at.new.states) c.self.inside.states.items) ≡ c.retire_at.new.states =
    written c.self.inside.states.items c.retire_at.new.states c.self.inside.states.len (let e = c.retire_at.auto.states in let f = c.deref_mut.ensures.len in omega arith) in
    let base : IsBase c.self.inside.links.items c.retire_at.new.states c.retire_at.new.free.items =
    subst (λ l. IsBase l c.retire_at.new.states c.retire_at.new.free.items) c.deref.ensures.value c.retire_at.ensures.base in
    let pruned : IsPruned (link_in c.self.inside.links.items) (state_in (stopped c.self.inside.states.items c.args.place.0)) (state_in c.retire_at.new.states) =
    subst₂ (λ l s. IsPruned (link_in l) (state_in (stopped s c.args.place.0)) (state_in c.retire_at.new.states)) c.deref.ensures.value c.deref_mut.ensures.value c.retire_at.ensures.pruned in
    let P : List State → Type 0 = λ s. IsTrimmed (ended c.args.self.now c.args.place.0) (nodes c.self.inside.links.items s) in
    subst P (sym now) (trimmed c.self.inside.links.items c.self.inside.states.items c.self.inside.free.items c.self.invariant.0 c.args.self.now c.self.view_is
    c.args.place.0 c.requires c.retire_at.new.states c.retire_at.new.free.items base c.retire_at.ensures.uses pruned)

pub returns-clause-gone : goal.returns-clause-gone
returns-clause-gone c =
    let now : take c.self.inside.states.len (c.retire_at.new.states ++ drop (length c.retire_at.new.states) c.self.inside.states.items) ≡ c.retire_at.new.states =
    written c.self.inside.states.items c.retire_at.new.states c.self.inside.states.len (let e = c.retire_at.auto.states in let f = c.deref_mut.ensures.len in omega arith) in
    let base : IsBase c.self.inside.links.items c.retire_at.new.states c.retire_at.new.free.items =
    subst (λ l. IsBase l c.retire_at.new.states c.retire_at.new.free.items) c.deref.ensures.value c.retire_at.ensures.base in
    let pruned : IsPruned (link_in c.self.inside.links.items) (state_in (stopped c.self.inside.states.items c.args.place.0)) (state_in c.retire_at.new.states) =
    subst₂ (λ l s. IsPruned (link_in l) (state_in (stopped s c.args.place.0)) (state_in c.retire_at.new.states)) c.deref.ensures.value c.deref_mut.ensures.value c.retire_at.ensures.pruned in
    let P : List State → Type 0 = λ s. context (nodes c.self.inside.links.items s) c.args.place.0 ≡ None in
    subst P (sym now) (gone c.self.inside.links.items c.self.inside.states.items c.self.inside.free.items c.self.invariant.0 c.args.self.now c.self.view_is
    c.args.place.0 c.requires c.retire_at.new.states c.retire_at.new.free.items base c.retire_at.ensures.uses pruned)

pub returns-clause-others : goal.returns-clause-others
returns-clause-others c =
    let now : take c.self.inside.states.len (c.retire_at.new.states ++ drop (length c.retire_at.new.states) c.self.inside.states.items) ≡ c.retire_at.new.states =
    written c.self.inside.states.items c.retire_at.new.states c.self.inside.states.len (let e = c.retire_at.auto.states in let f = c.deref_mut.ensures.len in omega arith) in
    let base : IsBase c.self.inside.links.items c.retire_at.new.states c.retire_at.new.free.items =
    subst (λ l. IsBase l c.retire_at.new.states c.retire_at.new.free.items) c.deref.ensures.value c.retire_at.ensures.base in
    let pruned : IsPruned (link_in c.self.inside.links.items) (state_in (stopped c.self.inside.states.items c.args.place.0)) (state_in c.retire_at.new.states) =
    subst₂ (λ l s. IsPruned (link_in l) (state_in (stopped s c.args.place.0)) (state_in c.retire_at.new.states)) c.deref.ensures.value c.deref_mut.ensures.value c.retire_at.ensures.pruned in
    let P : List State → Type 0 = λ s. SameElsewhere c.args.self.now (nodes c.self.inside.links.items s) c.args.place.0 in
    subst P (sym now) (others c.self.inside.links.items c.self.inside.states.items c.self.inside.free.items c.self.invariant.0 c.args.self.now c.self.view_is
    c.args.place.0 c.requires c.retire_at.new.states c.retire_at.new.free.items base c.retire_at.ensures.uses pruned)

pub returns-clause-live : goal.returns-clause-live
returns-clause-live c =
    let now : take c.self.inside.states.len (c.retire_at.new.states ++ drop (length c.retire_at.new.states) c.self.inside.states.items) ≡ c.retire_at.new.states =
    written c.self.inside.states.items c.retire_at.new.states c.self.inside.states.len (let e = c.retire_at.auto.states in let f = c.deref_mut.ensures.len in omega arith) in
    let base : IsBase c.self.inside.links.items c.retire_at.new.states c.retire_at.new.free.items =
    subst (λ l. IsBase l c.retire_at.new.states c.retire_at.new.free.items) c.deref.ensures.value c.retire_at.ensures.base in
    let pruned : IsPruned (link_in c.self.inside.links.items) (state_in (stopped c.self.inside.states.items c.args.place.0)) (state_in c.retire_at.new.states) =
    subst₂ (λ l s. IsPruned (link_in l) (state_in (stopped s c.args.place.0)) (state_in c.retire_at.new.states)) c.deref.ensures.value c.deref_mut.ensures.value c.retire_at.ensures.pruned in
    let P : List State → Type 0 = λ s. live_count c.args.self.now ≡ live_count (nodes c.self.inside.links.items s) + 1 in
    subst P (sym now) (live_left c.self.inside.links.items c.self.inside.states.items c.self.inside.free.items c.self.invariant.0 c.args.self.now c.self.view_is
    c.args.place.0 c.requires c.retire_at.new.states c.retire_at.new.free.items base c.retire_at.ensures.uses pruned)
