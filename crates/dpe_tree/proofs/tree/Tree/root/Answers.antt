use Rattle.std.proofs.Common.{◌≡◌, ◌∙◌, ◌<◌, ◌++◌, ◌∷◌, [], List, sym, ap, ap₂, subst, subst₂, arith, length, take, drop, slice_set}
use Rattle.dpe_tree.specs.declared.node.Link.{Link}
use Rattle.dpe_tree.specs.declared.node.State.{State}
use Rattle.dpe_tree.specs.Tree.{live_count}
use Rattle.dpe_tree.specs.Arena.{top, live_with, nodes, IsArena}
use Rattle.dpe_tree.proofs.Adding.{written}
use Rattle.dpe_tree.proofs.Rooting.{has_free_yet, within_root, root_arena, root_free, root_nodes, root_live}
use Rattle.dpe_tree.proofs.tree.Tree.root.Goals as goal

pub next_free-at-requires : goal.next_free-at-requires
next_free-at-requires c =
    let some = has_free_yet c.self.inside.links.items c.self.inside.states.items c.self.inside.free.items c.self.invariant.0 c.args.self.now c.self.view_is c.requires in
    omega arith

pub attach_root-requires-clause-links : goal.attach_root-requires-clause-links
attach_root-requires-clause-links c =
    let arena : IsArena c.self.inside.links.items c.self.inside.states.items (c.next_free-at.new.free.items ++ c.next_free-at.result ∷ []) =
    subst (λ f. IsArena c.self.inside.links.items c.self.inside.states.items f) c.next_free-at.ensures.places c.self.invariant.0 in
    let P : List Link → Type 0 = λ l. c.next_free-at.result < length l in
    subst P (sym c.deref_mut.ensures.value) (within_root c.self.inside.links.items c.self.inside.states.items c.next_free-at.new.free.items c.next_free-at.result arena c.args.self.now c.self.view_is
    c.requires c.args.cdis.now).0

pub attach_root-requires-clause-states : goal.attach_root-requires-clause-states
attach_root-requires-clause-states c =
    let arena : IsArena c.self.inside.links.items c.self.inside.states.items (c.next_free-at.new.free.items ++ c.next_free-at.result ∷ []) =
    subst (λ f. IsArena c.self.inside.links.items c.self.inside.states.items f) c.next_free-at.ensures.places c.self.invariant.0 in
    let P : List State → Type 0 = λ s. c.next_free-at.result < length s in
    subst P (sym c.deref_mut-2.ensures.value) (within_root c.self.inside.links.items c.self.inside.states.items c.next_free-at.new.free.items c.next_free-at.result arena c.args.self.now c.self.view_is
    c.requires c.args.cdis.now).1

pub invariant_of-self : goal.invariant_of-self
invariant_of-self c =
    let arena : IsArena c.self.inside.links.items c.self.inside.states.items (c.next_free-at.new.free.items ++ c.next_free-at.result ∷ []) =
    subst (λ f. IsArena c.self.inside.links.items c.self.inside.states.items f) c.next_free-at.ensures.places c.self.invariant.0 in
    let links_now : take c.self.inside.links.len (c.attach_root.new.links ++ drop (length c.attach_root.new.links) c.self.inside.links.items) ≡ slice_set c.self.inside.links.items c.next_free-at.result top =
    written c.self.inside.links.items c.attach_root.new.links c.self.inside.links.len (let e = c.attach_root.auto.links in let f = c.deref_mut.ensures.len in omega arith)
    ∙ (c.attach_root.ensures.links ∙ ap (λ l. slice_set l c.next_free-at.result top) c.deref_mut.ensures.value) in
    let states_now : take c.self.inside.states.len (c.attach_root.new.states ++ drop (length c.attach_root.new.states) c.self.inside.states.items) ≡ slice_set c.self.inside.states.items c.next_free-at.result (live_with c.args.cdis.now) =
    written c.self.inside.states.items c.attach_root.new.states c.self.inside.states.len (let e = c.attach_root.auto.states in let f = c.deref_mut-2.ensures.len in omega arith)
    ∙ (c.attach_root.ensures.states ∙ ap (λ s. slice_set s c.next_free-at.result (live_with c.args.cdis.now)) c.deref_mut-2.ensures.value) in
    let P : List Link → List State → Type 0 = λ l s. IsArena l s c.next_free-at.new.free.items in
    let room = c.self.invariant.1 in
    let same = c.next_free-at.ensures.capacity in (
      subst₂ P (sym links_now) (sym states_now) (root_arena c.self.inside.links.items c.self.inside.states.items c.next_free-at.new.free.items c.next_free-at.result arena c.args.self.now c.self.view_is
          c.requires c.args.cdis.now),
      omega arith,
    )

pub returns-clause-free : goal.returns-clause-free
returns-clause-free c =
    let arena : IsArena c.self.inside.links.items c.self.inside.states.items (c.next_free-at.new.free.items ++ c.next_free-at.result ∷ []) =
    subst (λ f. IsArena c.self.inside.links.items c.self.inside.states.items f) c.next_free-at.ensures.places c.self.invariant.0 in
    root_free c.self.inside.links.items c.self.inside.states.items c.next_free-at.new.free.items c.next_free-at.result arena c.args.self.now c.self.view_is
    c.requires c.args.cdis.now

pub returns-clause-tree : goal.returns-clause-tree
returns-clause-tree c =
    let arena : IsArena c.self.inside.links.items c.self.inside.states.items (c.next_free-at.new.free.items ++ c.next_free-at.result ∷ []) =
    subst (λ f. IsArena c.self.inside.links.items c.self.inside.states.items f) c.next_free-at.ensures.places c.self.invariant.0 in
    let links_now : take c.self.inside.links.len (c.attach_root.new.links ++ drop (length c.attach_root.new.links) c.self.inside.links.items) ≡ slice_set c.self.inside.links.items c.next_free-at.result top =
    written c.self.inside.links.items c.attach_root.new.links c.self.inside.links.len (let e = c.attach_root.auto.links in let f = c.deref_mut.ensures.len in omega arith)
    ∙ (c.attach_root.ensures.links ∙ ap (λ l. slice_set l c.next_free-at.result top) c.deref_mut.ensures.value) in
    let states_now : take c.self.inside.states.len (c.attach_root.new.states ++ drop (length c.attach_root.new.states) c.self.inside.states.items) ≡ slice_set c.self.inside.states.items c.next_free-at.result (live_with c.args.cdis.now) =
    written c.self.inside.states.items c.attach_root.new.states c.self.inside.states.len (let e = c.attach_root.auto.states in let f = c.deref_mut-2.ensures.len in omega arith)
    ∙ (c.attach_root.ensures.states ∙ ap (λ s. slice_set s c.next_free-at.result (live_with c.args.cdis.now)) c.deref_mut-2.ensures.value) in
    ap₂ nodes links_now states_now ∙ root_nodes c.self.inside.links.items c.self.inside.states.items c.next_free-at.new.free.items c.next_free-at.result arena c.args.self.now c.self.view_is
    c.requires c.args.cdis.now

pub returns-clause-live : goal.returns-clause-live
returns-clause-live c =
    let arena : IsArena c.self.inside.links.items c.self.inside.states.items (c.next_free-at.new.free.items ++ c.next_free-at.result ∷ []) =
    subst (λ f. IsArena c.self.inside.links.items c.self.inside.states.items f) c.next_free-at.ensures.places c.self.invariant.0 in
    let links_now : take c.self.inside.links.len (c.attach_root.new.links ++ drop (length c.attach_root.new.links) c.self.inside.links.items) ≡ slice_set c.self.inside.links.items c.next_free-at.result top =
    written c.self.inside.links.items c.attach_root.new.links c.self.inside.links.len (let e = c.attach_root.auto.links in let f = c.deref_mut.ensures.len in omega arith)
    ∙ (c.attach_root.ensures.links ∙ ap (λ l. slice_set l c.next_free-at.result top) c.deref_mut.ensures.value) in
    let states_now : take c.self.inside.states.len (c.attach_root.new.states ++ drop (length c.attach_root.new.states) c.self.inside.states.items) ≡ slice_set c.self.inside.states.items c.next_free-at.result (live_with c.args.cdis.now) =
    written c.self.inside.states.items c.attach_root.new.states c.self.inside.states.len (let e = c.attach_root.auto.states in let f = c.deref_mut-2.ensures.len in omega arith)
    ∙ (c.attach_root.ensures.states ∙ ap (λ s. slice_set s c.next_free-at.result (live_with c.args.cdis.now)) c.deref_mut-2.ensures.value) in
    ap live_count (ap₂ nodes links_now states_now) ∙ root_live c.self.inside.links.items c.self.inside.states.items c.next_free-at.new.free.items c.next_free-at.result arena c.args.self.now c.self.view_is
    c.requires c.args.cdis.now
