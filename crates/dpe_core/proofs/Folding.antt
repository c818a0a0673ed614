-- The CDIs of contexts, as contexts come and go.
use Rattle.std.proofs.Common.{◌≡◌, ℕ, List, [], ◌∷◌, ◌++◌, refl, ap, sym, ◌∙◌, subst, map, true, false, Option, Some, None, IsSome, is_some}
use Rattle.std.proofs.lemmas.List.{map-append}
use Rattle.std.proofs.lemmas.List.Sums.{fold_push}
use native.Mathlib.Decide.{ℕ_discrete}
use Rattle.dpe_inputs.specs.declared.Cdis.{Cdis}
use Rattle.dpe_inputs.specs.Cdi.{attest_cdi, seal_cdi, attest_step, seal_step}
use Rattle.dpe_model.specs.declared.lineage.Birth as model
use Rattle.dpe_tree.specs.Tree.{Node, Birth, Places, cdis_of, cdis_or_zeros, cdis, context}
use Rattle.dpe_core.specs.Kept.{Live, Ends, IsFolded, AreFolded, birth_of, births_of}
use Rattle.dpe_core.proofs.Owned.{IsEnded, IsBegun}
use Rattle.dpe_core.proofs.Places.{same_node}

abbrev AllFolded : List ℕ → Live → Type 0
AllFolded seed live = (place : ℕ) → IsFolded seed (live place)

pub folded_ends : (seed : List ℕ) (old new : Live) → Ends old new → AllFolded seed old → AllFolded seed new
folded_ends seed old new h all place = by_node (new place) refl
  where
    by_node : (o : Option Node) → new place ≡ o → IsFolded seed (new place)
    by_node None e = subst (IsFolded seed) (sym e) tt
    by_node (Some node) e = subst (IsFolded seed) (sym (h place (ap is_some e))) (all place)

pub ends_from_ended : (old new : Live) (place : ℕ) → IsEnded old new place → Ends old new
ends_from_ended old new place h other live = elim (ℕ_discrete other place) [
  | yes e ↦ absurd (let f : false ≡ true = sym (ap is_some (ap new e ∙ h.gone)) ∙ live in cc)
  | no ne ↦ h.others other ne
]

pub folded_ended : (seed : List ℕ) (old new : Live) (place : ℕ) → IsEnded old new place → AllFolded seed old → AllFolded seed new
folded_ended seed old new place h = folded_ends seed old new (ends_from_ended old new place h)

pub folded_begun : (seed : List ℕ) (old new : Live) (place : ℕ) (node : Node) → IsBegun old new place node → IsFolded seed (Some node) → AllFolded seed old → AllFolded seed new
folded_begun seed old new place node h here all other = elim (ℕ_discrete other place) [
  | yes e ↦ subst (IsFolded seed) (sym (ap new e ∙ h.here)) here
  | no ne ↦ subst (IsFolded seed) (sym (h.others other ne)) (all other)
]

-- the CDIs of a live node
pub folded_at : (seed : List ℕ) (node : Option Node) → IsSome node → IsFolded seed node → AreFolded seed (births_of node) (cdis_or_zeros (cdis_of node))
folded_at seed None live h = absurd cc
folded_at seed (Some node) live h = h

-- one layer more
inputs_more : (births : List model.Birth) (birth : model.Birth) → map (λ (b : model.Birth). b.input) (births ++ birth ∷ []) ≡ map (λ (b : model.Birth). b.input) births ++ birth.input ∷ []
inputs_more births birth = map-append (λ (b : model.Birth). b.input) births (birth ∷ [])

pub folded_more : (seed : List ℕ) (births : List model.Birth) (birth : model.Birth) (old new : Cdis) → AreFolded seed births old → new.attest ≡ attest_step old.attest birth.input → new.seal ≡ seal_step old.seal birth.input
    → AreFolded seed (births ++ birth ∷ []) new
folded_more seed births birth old new h attest seal =
    let inputs = map (λ (b : model.Birth). b.input) births in (
      attest ∙ (ap (λ c. attest_step c birth.input) h.0
          ∙ (sym (fold_push attest_step seed inputs birth.input) ∙ sym (ap (attest_cdi seed) (inputs_more births birth)))),
      seal ∙ (ap (λ c. seal_step c birth.input) h.1
          ∙ (sym (fold_push seal_step seed inputs birth.input) ∙ sym (ap (seal_cdi seed) (inputs_more births birth)))),
    )

-- a child of a node, with CDIs that are one step further
pub folded_child : (seed : List ℕ) (lineage : List Birth) (birth : Birth) (old new : Cdis) → AreFolded seed (map birth_of lineage) old → new.attest ≡ attest_step old.attest birth.input → new.seal ≡ seal_step old.seal birth.input
    → IsFolded seed (Some (record { lineage = lineage ++ birth ∷ []; cdis = Some new }))
folded_child seed lineage birth old new h attest seal =
    subst (λ births. AreFolded seed births new) (sym (map-append birth_of lineage (birth ∷ [])))
    (folded_more seed (map birth_of lineage) (birth_of birth) old new h attest seal)

-- the CDIs of a live place
pub folded_place : (seed : List ℕ) (tree : Places) (place : ℕ) → IsSome (context tree place) → IsFolded seed (context tree place) → AreFolded seed (births_of (context tree place)) (cdis tree place)
folded_place seed tree place live h =
    subst (λ o. AreFolded seed (births_of (context tree place)) (cdis_or_zeros (cdis_of o))) (same_node tree place live) (folded_at seed (context tree place) live h)
