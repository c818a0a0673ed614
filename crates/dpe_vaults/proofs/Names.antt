-- Lists under names, searched and changed at one place.
use Rattle.std.proofs.Common.{◌≡◌, ℕ, Bool, true, false, cond, List, [], ◌∷◌, ◌++◌, length, Option, Some, None, Ordering, Less, Equal, Greater, nat_cmp, is_eq, bytes_eq, refl, sym, ap, subst, ◌∙◌, true≢false, arith}
use Rattle.std.specs.List.{AllByRecursion}
use Rattle.std.specs.Ordering.{ordering_reverse}
use Rattle.std.specs.Cmp.Lexicographic.{slice_cmp}
use Rattle.std.proofs.lemmas.Cmp.{nat_list_cmp_total, tied_itself}
use Rattle.std.proofs.lemmas.Map.Text.{is_eq-slice_cmp}
use Rattle.std.proofs.lemmas.Slice.Eq.{bytes_eq-Decides}
use Rattle.dpe_vaults.specs.Named.{Named, named, name_order, found, without, placed, placed_by, AreOrdered}
use Rattle.dpe_vaults.specs.Tables.{AllBefore, AllAfter}

-- ---- two names

other_if_less : (a b : List ℕ) → name_order a b ≡ Less → bytes_eq a b ≡ false
other_if_less a b e = sym (is_eq-slice_cmp a b) ∙ ap is_eq e

other_if_greater : (a b : List ℕ) → name_order a b ≡ Greater → bytes_eq a b ≡ false
other_if_greater a b e = sym (is_eq-slice_cmp a b) ∙ ap is_eq e

pub same_if_equal : (a b : List ℕ) → name_order a b ≡ Equal → a ≡ b
same_if_equal a b e = (bytes_eq-Decides a b).0 (sym (is_eq-slice_cmp a b) ∙ ap is_eq e)

equal_if_same : (a b : List ℕ) → a ≡ b → name_order a b ≡ Equal
equal_if_same a b e = ap (λ (n : List ℕ). name_order n b) e ∙ tied_itself nat_list_cmp_total b

test_if_same : (a b : List ℕ) → a ≡ b → bytes_eq a b ≡ true
test_if_same a b e = sym (is_eq-slice_cmp a b) ∙ ap is_eq (equal_if_same a b e)

-- it is before it the other way round
turned : (a b : List ℕ) → name_order a b ≡ Greater → name_order b a ≡ Less
turned a b e = nat_list_cmp_total.antisymm b a ∙ ap ordering_reverse e

-- ---- a list with no such name behind it

pub found_none : (rows : List (Named ℕ)) (name : List ℕ) → AllAfter rows name → found rows name ≡ None
found_none [] name all = refl
found_none (n ∷ ns) name all =
    ap (λ (t : Bool). cond t (Some n.value) (found ns name)) (other_if_greater n.name name all.0) ∙ found_none ns name all.1

without_none : (rows : List (Named ℕ)) (name : List ℕ) → AllAfter rows name → without rows name ≡ rows
without_none [] name all = refl
without_none (n ∷ ns) name all =
    ap (λ (t : Bool). cond t (without ns name) (n ∷ without ns name)) (other_if_greater n.name name all.0)
    ∙ ap (λ (more : List (Named ℕ)). n ∷ more) (without_none ns name all.1)

placed_front : (rows : List (Named ℕ)) (new : Named ℕ) → AllAfter rows new.name → placed rows new ≡ new ∷ rows
placed_front [] new all = refl
placed_front (n ∷ ns) new all = ap (λ (o : Ordering). placed_by o n ns new (placed ns new)) all.0

-- ---- behind names that come before

pub found_skip : (before more : List (Named ℕ)) (name : List ℕ) → AllBefore before name → found (before ++ more) name ≡ found more name
found_skip [] more name all = refl
found_skip (n ∷ ns) more name all =
    ap (λ (t : Bool). cond t (Some n.value) (found (ns ++ more) name)) (other_if_less n.name name all.0) ∙ found_skip ns more name all.1

without_skip : (before more : List (Named ℕ)) (name : List ℕ) → AllBefore before name → without (before ++ more) name ≡ before ++ without more name
without_skip [] more name all = refl
without_skip (n ∷ ns) more name all =
    ap (λ (t : Bool). cond t (without (ns ++ more) name) (n ∷ without (ns ++ more) name)) (other_if_less n.name name all.0)
    ∙ ap (λ (rows : List (Named ℕ)). n ∷ rows) (without_skip ns more name all.1)

placed_skip : (before more : List (Named ℕ)) (new : Named ℕ) → AllBefore before new.name → placed (before ++ more) new ≡ before ++ placed more new
placed_skip [] more new all = refl
placed_skip (n ∷ ns) more new all =
    ap (λ (o : Ordering). placed_by o n (ns ++ more) new (placed (ns ++ more) new)) all.0
    ∙ ap (λ (rows : List (Named ℕ)). n ∷ rows) (placed_skip ns more new all.1)

-- ---- where the name stands, and where it belongs

module _ (before behind : List (Named ℕ)) (name : List ℕ) (all : AllBefore before name) (rest : AllAfter behind name) where
  pub found_absent : found (before ++ behind) name ≡ None
  found_absent = found_skip before behind name all ∙ found_none behind name rest

  pub without_absent : without (before ++ behind) name ≡ before ++ behind
  without_absent = without_skip before behind name all ∙ ap (λ (rows : List (Named ℕ)). before ++ rows) (without_none behind name rest)

  pub placed_absent : (at : ℕ) → placed (before ++ behind) (named name at) ≡ before ++ named name at ∷ behind
  placed_absent at =
      placed_skip before behind (named name at) all
      ∙ ap (λ (rows : List (Named ℕ)). before ++ rows) (placed_front behind (named name at) rest)

module _ (before behind : List (Named ℕ)) (row : Named ℕ) (name : List ℕ) (all : AllBefore before name) (same : row.name ≡ name) (rest : AllAfter behind name) where
  pub found_there : found (before ++ row ∷ behind) name ≡ Some row.value
  found_there =
      found_skip before (row ∷ behind) name all
      ∙ ap (λ (t : Bool). cond t (Some row.value) (found behind name)) (test_if_same row.name name same)

  pub without_there : without (before ++ row ∷ behind) name ≡ before ++ behind
  without_there =
      without_skip before (row ∷ behind) name all
      ∙ ap (λ (rows : List (Named ℕ)). before ++ rows)
      (ap (λ (t : Bool). cond t (without behind name) (row ∷ without behind name)) (test_if_same row.name name same)
      ∙ without_none behind name rest)

  pub placed_there : (at : ℕ) → placed (before ++ row ∷ behind) (named name at) ≡ before ++ named name at ∷ behind
  placed_there at =
      placed_skip before (row ∷ behind) (named name at) all
      ∙ ap (λ (rows : List (Named ℕ)). before ++ rows)
      (ap (λ (o : Ordering). placed_by o row behind (named name at) (placed behind (named name at))) (equal_if_same row.name name same))

-- ---- order

module _ {A : Type 0} where
  -- what holds of all of a list holds of them still where one of which it holds was put in
  placed_by_all : (P : Named A → Type 0) (o : Ordering) (n new : Named A) (ns more : List (Named A)) → P n → P new
      → AllByRecursion P ns → AllByRecursion P more → AllByRecursion P (placed_by o n ns new more)
  placed_by_all P Less n new ns more pn p all m = (pn, m)
  placed_by_all P Equal n new ns more pn p all m = (p, all)
  placed_by_all P Greater n new ns more pn p all m = (p, (pn, all))

  pub placed_all : (P : Named A → Type 0) (ns : List (Named A)) (new : Named A) → P new → AllByRecursion P ns → AllByRecursion P (placed ns new)
  placed_all P [] new p all = (p, tt)
  placed_all P (n ∷ ns) new p all =
      placed_by_all P (name_order n.name new.name) n new ns (placed ns new) all.0 p all.1 (placed_all P ns new p all.1)

  -- what holds of each for one reason holds of each for another
  pub all_by : (P Q : Named A → Type 0) (ns : List (Named A)) → ((m : Named A) → P m → Q m) → AllByRecursion P ns → AllByRecursion Q ns
  all_by P Q [] f all = tt
  all_by P Q (n ∷ ns) f all = (f n all.0, all_by P Q ns f all.1)

  abbrev Follow : List ℕ → List (Named A) → Type 0
  Follow a ns = AllByRecursion (λ m. name_order a m.name ≡ Less) ns

  placed_by_ordered : (o : Ordering) (n new : Named A) (ns : List (Named A)) → o ≡ name_order n.name new.name → AreOrdered (n ∷ ns)
      → AreOrdered (placed ns new) → AreOrdered (placed_by o n ns new (placed ns new))
  placed_by_ordered Less n new ns is ordered more = (placed_all (λ m. name_order n.name m.name ≡ Less) ns new (sym is) ordered.0, more)
  placed_by_ordered Equal n new ns is ordered more =
      (subst (λ (a : List ℕ). Follow a ns) (same_if_equal n.name new.name (sym is)) ordered.0, ordered.1)
  placed_by_ordered Greater n new ns is ordered more =
      let less : name_order new.name n.name ≡ Less = turned n.name new.name (sym is) in (
        (
          less,
          all_by (λ m. name_order n.name m.name ≡ Less) (λ m. name_order new.name m.name ≡ Less) ns
              (λ m e. nat_list_cmp_total.trans new.name n.name m.name less e) ordered.0,
        ),
        ordered,
      )

  pub placed_ordered : (ns : List (Named A)) (new : Named A) → AreOrdered ns → AreOrdered (placed ns new)
  placed_ordered [] new ordered = (tt, tt)
  placed_ordered (n ∷ ns) new ordered =
      placed_by_ordered (name_order n.name new.name) n new ns refl ordered (placed_ordered ns new ordered.1)

  pub put_ordered : (t : Bool) (ns : List (Named A)) (new : Named A) → AreOrdered ns → AreOrdered (cond t (placed ns new) ns)
  put_ordered true ns new ordered = placed_ordered ns new ordered
  put_ordered false ns new ordered = ordered

  kept_all : (t : Bool) (P : Named A → Type 0) (n : Named A) (more : List (Named A)) → P n → AllByRecursion P more → AllByRecursion P (cond t more (n ∷ more))
  kept_all true P n more p all = all
  kept_all false P n more p all = (p, all)

  pub without_all : (P : Named A → Type 0) (ns : List (Named A)) (name : List ℕ) → AllByRecursion P ns → AllByRecursion P (without ns name)
  without_all P [] name all = tt
  without_all P (n ∷ ns) name all = kept_all (bytes_eq n.name name) P n (without ns name) all.0 (without_all P ns name all.1)

  kept_ordered : (t : Bool) (n : Named A) (more : List (Named A)) → Follow n.name more → AreOrdered more → AreOrdered (cond t more (n ∷ more))
  kept_ordered true n more all ordered = ordered
  kept_ordered false n more all ordered = (all, ordered)

  pub without_ordered : (ns : List (Named A)) (name : List ℕ) → AreOrdered ns → AreOrdered (without ns name)
  without_ordered [] name ordered = tt
  without_ordered (n ∷ ns) name ordered =
      kept_ordered (bytes_eq n.name name) n (without ns name) (without_all (λ m. name_order n.name m.name ≡ Less) ns name ordered.0)
      (without_ordered ns name ordered.1)

-- all rows behind the one with a name come after it
pub behind_after : (row : Named ℕ) (behind : List (Named ℕ)) (name : List ℕ) → AreOrdered (row ∷ behind) → row.name ≡ name → AllAfter behind name
behind_after row behind name ordered same =
    all_by (λ m. name_order row.name m.name ≡ Less) (λ m. name_order m.name name ≡ Greater) behind
    (λ m e. nat_list_cmp_total.antisymm m.name name ∙ ap ordering_reverse (ap (λ (a : List ℕ). name_order a m.name) (sym same) ∙ e)) ordered.0

-- and so do all from the first on that comes after it
pub from_after : (row : Named ℕ) (behind : List (Named ℕ)) (name : List ℕ) → AreOrdered (row ∷ behind) → name_order row.name name ≡ Greater → AllAfter (row ∷ behind) name
from_after row behind name ordered greater = (
  greater,
  all_by (λ m. name_order row.name m.name ≡ Less) (λ m. name_order m.name name ≡ Greater) behind
      (λ m e. nat_list_cmp_total.antisymm m.name name
      ∙ ap ordering_reverse (nat_list_cmp_total.trans name row.name m.name (turned row.name name greater) e)) ordered.0,
)

-- the rows from one on are in order where all are
pub ordered_behind : (before more : List (Named ℕ)) → AreOrdered (before ++ more) → AreOrdered more
ordered_behind [] more ordered = ordered
ordered_behind (n ∷ ns) more ordered = ordered_behind ns more ordered.1

-- what holds of all rows holds of the one there
all_at : (P : Named ℕ → Type 0) (before : List (Named ℕ)) (row : Named ℕ) (behind : List (Named ℕ)) → AllByRecursion P (before ++ row ∷ behind) → P row
all_at P [] row behind all = all.0
all_at P (n ∷ ns) row behind all = all_at P ns row behind all.1

-- the rows before one with a name come before it
pub before_same : (before : List (Named ℕ)) (row : Named ℕ) (behind : List (Named ℕ)) (name : List ℕ) → AreOrdered (before ++ row ∷ behind) → row.name ≡ name → AllBefore before name
before_same [] row behind name ordered same = tt
before_same (n ∷ ns) row behind name ordered same = (
  subst (λ (m : List ℕ). name_order n.name m ≡ Less) same (all_at (λ m. name_order n.name m.name ≡ Less) ns row behind ordered.0),
  before_same ns row behind name ordered.1 same,
)

-- the rows up to one that comes before a name come before it
pub before_less : (before : List (Named ℕ)) (row : Named ℕ) (behind : List (Named ℕ)) (name : List ℕ) → AreOrdered (before ++ row ∷ behind) → name_order row.name name ≡ Less → AllBefore (before ++ row ∷ []) name
before_less [] row behind name ordered less = (less, tt)
before_less (n ∷ ns) row behind name ordered less = (
  nat_list_cmp_total.trans n.name row.name name (all_at (λ m. name_order n.name m.name ≡ Less) ns row behind ordered.0) less,
  before_less ns row behind name ordered.1 less,
)
