use Rattle.std.proofs.Common.{◌≡◌, ◌∙◌, ◌<◌, ◌+◌, ◌++◌, ◌∷◌, [], List, sym, ap, ap₂, subst, subst₂, arith, length, take, drop}
use Rattle.dpe_tree.specs.declared.node.Link.{Link}
use Rattle.dpe_tree.specs.declared.node.State.{State}
use Rattle.dpe_tree.specs.Tree.{live_count}
use Rattle.dpe_tree.specs.Arena.{stopped, attached, started, link_in, state_in, nodes, IsArena}
use Rattle.dpe_tree.proofs.Adding.{written, has_free, places_within, shallow, few_children, free_place, tree_instead, live_instead, arena_instead}
use Rattle.dpe_tree.proofs.tree.Tree.replace.Goals as goal

pub next_free-at-requires : goal.next_free-at-requires
next_free-at-requires c =
    let some = has_free c.self.inside.links.items c.self.inside.states.items c.self.inside.free.items c.self.invariant.0 c.args.self.now c.self.view_is c.args.parent.0 c.requires.parent c.requires.depth in
    omega arith

pub attach_instead-requires-clause-links : goal.attach_instead-requires-clause-links
attach_instead-requires-clause-links c =
    let arena : IsArena c.self.inside.links.items c.self.inside.states.items (c.next_free-at.new.free.items ++ c.next_free-at.result ∷ []) =
    subst (λ f. IsArena c.self.inside.links.items c.self.inside.states.items f) c.next_free-at.ensures.places c.self.invariant.0 in
    let w = places_within c.self.inside.links.items c.self.inside.states.items c.next_free-at.new.free.items c.next_free-at.result arena c.args.self.now c.self.view_is
    c.args.parent.0 c.requires.parent c.requires.depth c.args.birth c.requires.birth c.args.input.now c.args.cdis.now in
    let P : List Link → Type 0 = λ l. (c.args.parent.0 < length l) × (c.next_free-at.result < length l) in
    subst P (sym c.deref_mut.ensures.value) (w.0, w.1)

pub attach_instead-requires-clause-states : goal.attach_instead-requires-clause-states
attach_instead-requires-clause-states c =
    let arena : IsArena c.self.inside.links.items c.self.inside.states.items (c.next_free-at.new.free.items ++ c.next_free-at.result ∷ []) =
    subst (λ f. IsArena c.self.inside.links.items c.self.inside.states.items f) c.next_free-at.ensures.places c.self.invariant.0 in
    let w = places_within c.self.inside.links.items c.self.inside.states.items c.next_free-at.new.free.items c.next_free-at.result arena c.args.self.now c.self.view_is
    c.args.parent.0 c.requires.parent c.requires.depth c.args.birth c.requires.birth c.args.input.now c.args.cdis.now in
    let P : List State → Type 0 = λ s. (c.args.parent.0 < length s) × (c.next_free-at.result < length s) in
    subst P (sym c.deref_mut-2.ensures.value) (w.2, w.3)

pub attach_instead-requires-clause-depth : goal.attach_instead-requires-clause-depth
attach_instead-requires-clause-depth c =
    let arena : IsArena c.self.inside.links.items c.self.inside.states.items (c.next_free-at.new.free.items ++ c.next_free-at.result ∷ []) =
    subst (λ f. IsArena c.self.inside.links.items c.self.inside.states.items f) c.next_free-at.ensures.places c.self.invariant.0 in
    let P : List Link → Type 0 = λ l. (link_in l c.args.parent.0).depth < 255 in
    subst P (sym c.deref_mut.ensures.value) (shallow c.self.inside.links.items c.self.inside.states.items c.next_free-at.new.free.items c.next_free-at.result arena c.args.self.now c.self.view_is
    c.args.parent.0 c.requires.parent c.requires.depth c.args.birth c.requires.birth c.args.input.now c.args.cdis.now)

pub attach_instead-requires-clause-children : goal.attach_instead-requires-clause-children
attach_instead-requires-clause-children c =
    let arena : IsArena c.self.inside.links.items c.self.inside.states.items (c.next_free-at.new.free.items ++ c.next_free-at.result ∷ []) =
    subst (λ f. IsArena c.self.inside.links.items c.self.inside.states.items f) c.next_free-at.ensures.places c.self.invariant.0 in
    let P : List State → Type 0 = λ s. (state_in s c.args.parent.0).children + 1 < 4294967296 in
    subst P (sym c.deref_mut-2.ensures.value) (few_children c.self.inside.links.items c.self.inside.states.items c.next_free-at.new.free.items c.next_free-at.result arena c.args.self.now c.self.view_is
    c.args.parent.0 c.requires.parent c.requires.depth c.args.birth c.requires.birth c.args.input.now c.args.cdis.now)

pub invariant_of-self : goal.invariant_of-self
invariant_of-self c =
    let arena : IsArena c.self.inside.links.items c.self.inside.states.items (c.next_free-at.new.free.items ++ c.next_free-at.result ∷ []) =
    subst (λ f. IsArena c.self.inside.links.items c.self.inside.states.items f) c.next_free-at.ensures.places c.self.invariant.0 in
    let links_now : take c.self.inside.links.len (c.attach_instead.new.links ++ drop (length c.attach_instead.new.links) c.self.inside.links.items) ≡ attached c.self.inside.links.items c.args.parent.0 c.next_free-at.result c.args.birth c.args.input.now =
    written c.self.inside.links.items c.attach_instead.new.links c.self.inside.links.len (let e = c.attach_instead.auto.links in let f = c.deref_mut.ensures.len in omega arith)
    ∙ (c.attach_instead.ensures.links ∙ ap (λ l. attached l c.args.parent.0 c.next_free-at.result c.args.birth c.args.input.now) c.deref_mut.ensures.value) in
    let states_now : take c.self.inside.states.len (c.attach_instead.new.states ++ drop (length c.attach_instead.new.states) c.self.inside.states.items) ≡ (λ (s : List State). started (stopped s c.args.parent.0) c.args.parent.0 c.next_free-at.result c.args.cdis.now) c.self.inside.states.items =
    written c.self.inside.states.items c.attach_instead.new.states c.self.inside.states.len (let e = c.attach_instead.auto.states in let f = c.deref_mut-2.ensures.len in omega arith)
    ∙ (c.attach_instead.ensures.states ∙ ap (λ (s : List State). started (stopped s c.args.parent.0) c.args.parent.0 c.next_free-at.result c.args.cdis.now) c.deref_mut-2.ensures.value) in
    let P : List Link → List State → Type 0 = λ l s. IsArena l s c.next_free-at.new.free.items in
    let room = c.self.invariant.1 in
    let same = c.next_free-at.ensures.capacity in (
      subst₂ P (sym links_now) (sym states_now) (arena_instead c.self.inside.links.items c.self.inside.states.items c.next_free-at.new.free.items c.next_free-at.result arena c.args.self.now c.self.view_is
          c.args.parent.0 c.requires.parent c.requires.depth c.args.birth c.requires.birth c.args.input.now c.args.cdis.now),
      omega arith,
    )

pub returns-clause-free : goal.returns-clause-free
returns-clause-free c =
    let arena : IsArena c.self.inside.links.items c.self.inside.states.items (c.next_free-at.new.free.items ++ c.next_free-at.result ∷ []) =
    subst (λ f. IsArena c.self.inside.links.items c.self.inside.states.items f) c.next_free-at.ensures.places c.self.invariant.0 in
    free_place c.self.inside.links.items c.self.inside.states.items c.next_free-at.new.free.items c.next_free-at.result arena c.args.self.now c.self.view_is
    c.args.parent.0 c.requires.parent c.requires.depth c.args.birth c.requires.birth c.args.input.now c.args.cdis.now

pub returns-clause-tree : goal.returns-clause-tree
returns-clause-tree c =
    let arena : IsArena c.self.inside.links.items c.self.inside.states.items (c.next_free-at.new.free.items ++ c.next_free-at.result ∷ []) =
    subst (λ f. IsArena c.self.inside.links.items c.self.inside.states.items f) c.next_free-at.ensures.places c.self.invariant.0 in
    let links_now : take c.self.inside.links.len (c.attach_instead.new.links ++ drop (length c.attach_instead.new.links) c.self.inside.links.items) ≡ attached c.self.inside.links.items c.args.parent.0 c.next_free-at.result c.args.birth c.args.input.now =
    written c.self.inside.links.items c.attach_instead.new.links c.self.inside.links.len (let e = c.attach_instead.auto.links in let f = c.deref_mut.ensures.len in omega arith)
    ∙ (c.attach_instead.ensures.links ∙ ap (λ l. attached l c.args.parent.0 c.next_free-at.result c.args.birth c.args.input.now) c.deref_mut.ensures.value) in
    let states_now : take c.self.inside.states.len (c.attach_instead.new.states ++ drop (length c.attach_instead.new.states) c.self.inside.states.items) ≡ (λ (s : List State). started (stopped s c.args.parent.0) c.args.parent.0 c.next_free-at.result c.args.cdis.now) c.self.inside.states.items =
    written c.self.inside.states.items c.attach_instead.new.states c.self.inside.states.len (let e = c.attach_instead.auto.states in let f = c.deref_mut-2.ensures.len in omega arith)
    ∙ (c.attach_instead.ensures.states ∙ ap (λ (s : List State). started (stopped s c.args.parent.0) c.args.parent.0 c.next_free-at.result c.args.cdis.now) c.deref_mut-2.ensures.value) in
    ap₂ nodes links_now states_now ∙ tree_instead c.self.inside.links.items c.self.inside.states.items c.next_free-at.new.free.items c.next_free-at.result arena c.args.self.now c.self.view_is
    c.args.parent.0 c.requires.parent c.requires.depth c.args.birth c.requires.birth c.args.input.now c.args.cdis.now

pub returns-clause-live : goal.returns-clause-live
returns-clause-live c =
    let arena : IsArena c.self.inside.links.items c.self.inside.states.items (c.next_free-at.new.free.items ++ c.next_free-at.result ∷ []) =
    subst (λ f. IsArena c.self.inside.links.items c.self.inside.states.items f) c.next_free-at.ensures.places c.self.invariant.0 in
    let links_now : take c.self.inside.links.len (c.attach_instead.new.links ++ drop (length c.attach_instead.new.links) c.self.inside.links.items) ≡ attached c.self.inside.links.items c.args.parent.0 c.next_free-at.result c.args.birth c.args.input.now =
    written c.self.inside.links.items c.attach_instead.new.links c.self.inside.links.len (let e = c.attach_instead.auto.links in let f = c.deref_mut.ensures.len in omega arith)
    ∙ (c.attach_instead.ensures.links ∙ ap (λ l. attached l c.args.parent.0 c.next_free-at.result c.args.birth c.args.input.now) c.deref_mut.ensures.value) in
    let states_now : take c.self.inside.states.len (c.attach_instead.new.states ++ drop (length c.attach_instead.new.states) c.self.inside.states.items) ≡ (λ (s : List State). started (stopped s c.args.parent.0) c.args.parent.0 c.next_free-at.result c.args.cdis.now) c.self.inside.states.items =
    written c.self.inside.states.items c.attach_instead.new.states c.self.inside.states.len (let e = c.attach_instead.auto.states in let f = c.deref_mut-2.ensures.len in omega arith)
    ∙ (c.attach_instead.ensures.states ∙ ap (λ (s : List State). started (stopped s c.args.parent.0) c.args.parent.0 c.next_free-at.result c.args.cdis.now) c.deref_mut-2.ensures.value) in
    ap live_count (ap₂ nodes links_now states_now) ∙ live_instead c.self.inside.links.items c.self.inside.states.items c.next_free-at.new.free.items c.next_free-at.result arena c.args.self.now c.self.view_is
    c.args.parent.0 c.requires.parent c.requires.depth c.args.birth c.requires.birth c.args.input.now c.args.cdis.now
