-- The births of a tree that grows.
use Rattle.std.proofs.Common.{◌≡◌, ◌≢◌, ℕ, ◌+◌, ◌<◌, ◌≤◌, List, [], ◌∷◌, ◌++◌, refl, ap, sym, ◌∙◌, subst, length, length-append, Option, Some, None, IsSome, is_some, replicate, false, true, drop, arith}
use Rattle.std.proofs.lemmas.List.{get_or-set_same, get_or-set_other, get_or_past, length-set}
use native.Mathlib.Decide.{ℕ_discrete}
use Rattle.dpe_inputs.specs.declared.Cdis.{Cdis}
use Rattle.dpe_inputs.specs.declared.Input.{Input}
use Rattle.dpe_tree.specs.Tree.{Node, Birth, Places, EndsWith, IsUsed, IsLive, IsFree, IsEmpty, IsTrimmed, node_at, lineage, lineage_of, cdis, cdis_of, cdis_or_zeros, with_node, ended, replaced, root, child}
use Rattle.state_vectors.specs.Births.{AreBefore, IsGrown}

-- ## Places

-- CDIs that aren't zeros are those of a live context
pub live_told : (tree : Places) (place : ℕ) → (cdis tree place).seal ≢ replicate 32 0 → IsLive tree place
live_told tree place other = by_cdis (cdis_of (node_at tree place)) other
  where
    by_cdis : (o : Option Cdis) → (cdis_or_zeros o).seal ≢ replicate 32 0 → IsSome o
    by_cdis None h = absurd (h refl)
    by_cdis (Some c) h = refl

pub used_from_live : (tree : Places) (place : ℕ) → IsLive tree place → IsUsed tree place
used_from_live tree place live = by_node (node_at tree place) live
  where
    by_node : (o : Option Node) → IsSome (cdis_of o) → IsSome o
    by_node None h = h
    by_node (Some node) h = refl

pub within : (tree : Places) (place : ℕ) → IsUsed tree place → place < length tree
within tree place used = elim (native.Mathlib.Decide.dec_lt place (length tree)) [
  | yes lt ↦ lt
  | no ge ↦ absurd (let e : node_at tree place ≡ None = get_or_past tree place None (omega arith) in cc)
]

-- ## Births

used_from_end : (o : Option Node) (front : List Birth) (birth : Birth) → EndsWith (lineage_of o) front birth → IsSome o
used_from_end None front birth ends = absurd (let l = ap length ends in let a = length-append front (birth ∷ []) in omega arith)
used_from_end (Some node) front birth ends = refl

last_of : (a b : List Birth) (x y : Birth) → a ++ x ∷ [] ≡ b ++ y ∷ [] → x ≡ y
last_of [] [] x y e = cc
last_of [] (b ∷ ys) x y e = absurd (let l = ap length e in let a = length-append ys (y ∷ []) in omega arith)
last_of (a ∷ xs) [] x y e = absurd (let l = ap length e in let b = length-append xs (x ∷ []) in omega arith)
last_of (a ∷ xs) (b ∷ ys) x y e = last_of xs ys x y (ap (λ l. drop 1 l) e)

pub none_before : (tree : Places) (next : ℕ) → IsEmpty tree → AreBefore tree next
none_before tree next empty place front birth ends =
    absurd (let f : false ≡ true = sym (ap is_some (empty place)) ∙ used_from_end (node_at tree place) front birth ends in cc)

-- a place gets a node whose last birth, if there is one, is before the next
pub with_before : (tree : Places) (place next : ℕ) (node : Node) → place < length tree → AreBefore tree next →
    ((front : List Birth) (birth : Birth) → EndsWith node.lineage front birth → birth.serial < next) → AreBefore (with_node tree place node) next
with_before tree place next node lt old new at front birth ends = elim (ℕ_discrete at place) [
  | yes e ↦ new front birth (sym (ap lineage_of (ap (node_at (with_node tree place node)) e ∙ get_or-set_same tree place (Some node) None lt)) ∙ ends)
  | no ne ↦ old at front birth (sym (ap lineage_of (get_or-set_other tree place at (Some node) None ne)) ∙ ends)
]

later : (tree : Places) (next more : ℕ) → next ≤ more → AreBefore tree next → AreBefore tree more
later tree next more le old place front birth ends = let b = old place front birth ends in omega arith

pub root_before : (tree : Places) (place next : ℕ) (cdis : Cdis) → IsFree tree place → IsEmpty tree → AreBefore (with_node tree place (root cdis)) next
root_before tree place next cdis free empty =
    with_before tree place next (root cdis) free.0 (none_before tree next empty) (λ front birth ends.
    absurd (let l = ap length ends in let a = length-append front (birth ∷ []) in omega arith))

-- a child born with the next serial
child_before : (tree : Places) (parent next : ℕ) (input : Input) (cdis : Cdis) (front : List Birth) (birth : Birth) →
    EndsWith (child tree parent next input cdis).lineage front birth → birth.serial < next + 1
child_before tree parent next input cdis front birth ends =
    let e = last_of (lineage tree parent) front (record { serial = next; input = input }) birth ends in
    let s : next ≡ birth.serial = ap (λ (b : Birth). b.serial) e in
    omega arith

pub added_before : (tree : Places) (parent place next : ℕ) (input : Input) (cdis : Cdis) → IsFree tree place → AreBefore tree next →
    AreBefore (with_node tree place (child tree parent next input cdis)) (next + 1)
added_before tree parent place next input cdis free old =
    with_before tree place (next + 1) (child tree parent next input cdis) free.0 (later tree next (next + 1) (omega arith) old) (child_before tree parent next input cdis)

pub ended_before : (tree : Places) (place next : ℕ) → IsLive tree place → AreBefore tree next → AreBefore (ended tree place) next
ended_before tree place next live old =
    with_before tree place next _ (within tree place (used_from_live tree place live)) old (old place)

pub replaced_before : (tree : Places) (parent place next : ℕ) (input : Input) (cdis : Cdis) → IsLive tree parent → IsFree tree place → AreBefore tree next →
    AreBefore (replaced tree parent place next input cdis) (next + 1)
replaced_before tree parent place next input cdis live free old =
    let long = length-set tree parent (Some (record { lineage = lineage tree parent; cdis = None })) in
    let lt = free.0 in
    with_before (ended tree parent) place (next + 1) (child tree parent next input cdis) (omega arith)
    (later (ended tree parent) next (next + 1) (omega arith) (ended_before tree parent next live old)) (child_before tree parent next input cdis)

pub retired_before : (tree new : Places) (place next : ℕ) → IsLive tree place → IsTrimmed (ended tree place) new → AreBefore tree next → AreBefore new next
retired_before tree new place next live trimmed old at front birth ends =
    let used = used_from_end (node_at new at) front birth ends in
    let same = trimmed.kept at used in
    ended_before tree place next live old at front birth (sym (ap lineage_of same) ∙ ends)
