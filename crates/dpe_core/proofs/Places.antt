-- The arena's changes, as those of its live contexts.
use Rattle.std.proofs.Common.{◌≡◌, ◌≢◌, ℕ, ◌<◌, refl, ap, sym, ◌∙◌, length, Bool, true, false, cond, Option, Some, None, is_some, IsSome, arith}
use Rattle.std.proofs.lemmas.List.{get_or-set_same, get_or-set_other, get_or_past, length-set}
use native.Mathlib.Decide.{ℕ_discrete}
use Rattle.dpe_inputs.specs.declared.Cdis.{Cdis}
use Rattle.dpe_tree.specs.Tree.{Node, Places, node_at, cdis_of, lineage, cdis, IsUsed, IsLive, IsFree, IsEmpty, IsTree, is_live, if_live, context, with_node, ended}
use Rattle.dpe_core.proofs.Owned.{IsEnded, IsBegun}

-- ## A live place

pub is_context : (node : Option Node) → IsSome (cdis_of node) → if_live node ≡ node
is_context node h = ap (λ t. cond t node None) h

pub live_from_context : (node : Option Node) → IsSome (if_live node) → IsSome (cdis_of node)
live_from_context node h = by_test (is_live node) refl h
  where
    by_test : (t : Bool) → is_live node ≡ t → IsSome (cond t node None) → IsSome (cdis_of node)
    by_test true e k = e
    by_test false e k = absurd cc

pub used_from_live : (node : Option Node) → IsSome (cdis_of node) → IsSome node
used_from_live None h = h
used_from_live (Some node) h = refl

pub is_place : (tree : Places) (place : ℕ) → IsUsed tree place → place < length tree
is_place tree place h = elim (native.Mathlib.Decide.dec_lt place (length tree)) [
  | yes lt ↦ lt
  | no ge ↦ absurd (let e : node_at tree place ≡ None = get_or_past tree place None (omega arith) in cc)
]

module _ (tree : Places) (place : ℕ) (h : IsSome (context tree place)) where
  pub is_live_place : IsLive tree place
  is_live_place = live_from_context (node_at tree place) h

  pub is_used_place : IsUsed tree place
  is_used_place = used_from_live (node_at tree place) is_live_place

  pub same_node : context tree place ≡ node_at tree place
  same_node = is_context (node_at tree place) is_live_place

-- ## Changes

pub here_after : (tree : Places) (place : ℕ) (node : Node) → place < length tree → context (with_node tree place node) place ≡ if_live (Some node)
here_after tree place node lt = ap if_live (get_or-set_same tree place (Some node) None lt)

pub elsewhere_after : (tree : Places) (place : ℕ) (node : Node) (other : ℕ) → other ≢ place → context (with_node tree place node) other ≡ context tree other
elsewhere_after tree place node other ne = ap if_live (get_or-set_other tree place other (Some node) None ne)

pub ends_at : (tree : Places) (place : ℕ) → place < length tree → IsEnded (context tree) (context (ended tree place)) place
ends_at tree place lt = record {
  gone = here_after tree place _ lt;
  others = elsewhere_after tree place _;
}

pub begins_at : (tree new : Places) (place : ℕ) (node : Node) (cdis : Cdis) → IsFree tree place → node.cdis ≡ Some cdis → new ≡ with_node tree place node → IsBegun (context tree) (context new) place node
begins_at tree new place node cdis free live is = record {
  free = ap if_live free.1;
  here = ap (λ t. context t place) is ∙ (here_after tree place node free.0 ∙ is_context (Some node) (ap is_some live));
  others = λ other ne. ap (λ t. context t other) is ∙ elsewhere_after tree place node other ne;
}

-- a place that is free stays free where another context ends
pub still_free : (tree : Places) (place gone : ℕ) → IsFree tree place → IsLive tree gone → IsFree (ended tree gone) place
still_free tree place gone free live =
    let apart : place ≢ gone = λ e. (let f : false ≡ true = sym (ap (λ i. is_some (cdis_of (node_at tree i))) (sym e) ∙ ap (λ o. is_some (cdis_of o)) free.1) ∙ live in absurd cc) in
    let long = length-set tree gone (Some (record { lineage = lineage tree gone; cdis = None })) in
    let within = free.0 in
    (omega arith, get_or-set_other tree gone place _ None apart ∙ free.1)

-- no context, no place
pub nothing_used : (tree : Places) → IsTree tree → ((place : ℕ) → context tree place ≡ None) → IsEmpty tree
nothing_used tree h none place = by_node (node_at tree place) refl
  where
    by_node : (o : Option Node) → node_at tree place ≡ o → node_at tree place ≡ None
    by_node None e = e
    by_node (Some node) e =
        let need = h.needed place (ap is_some e) in
        let empty : node_at tree need.0 ≡ None = sym (is_context (node_at tree need.0) need.1) ∙ none need.0 in
        let f : false ≡ true = sym (ap (λ o. is_some (cdis_of o)) empty) ∙ need.1 in
        absurd cc

pub is_free : (tree : Places) (place : ℕ) → IsFree tree place → context tree place ≡ None
is_free tree place free = ap if_live free.1

pub apart_from_free : (tree : Places) (live place : ℕ) → IsSome (context tree live) → IsFree tree place → live ≢ place
apart_from_free tree live place h free e =
    let f : false ≡ true = sym (ap is_some (ap (context tree) e ∙ is_free tree place free)) ∙ h in absurd cc
