-- Which row has which place, as contexts come and go.
use Rattle.std.proofs.Common.{◌≡◌, ◌≢◌, ℕ, suc, ◌+◌, ◌≤◌, List, [], ◌∷◌, ◌++◌, refl, ap, sym, ◌∙◌, get_or, slice_get, remove, Bool, true, false, cond, nat_eq, Option, Some, None, is_some, IsSome, arith}
use Rattle.std.proofs.lemmas.Bool.Decides.{Decides-eqb}
use Rattle.std.proofs.lemmas.List.Sums.{sum_by-remove, sum_by_push, sum_by-cons}
use Rattle.std.proofs.lemmas.Option.{get_or_from_slice_get, slice_get_within}
use native.Mathlib.Decide.{ℕ_discrete}
use Rattle.dpe_handles.specs.declared.row.Row.{Row}
use Rattle.dpe_tree.specs.Tree.{Node}
use Rattle.dpe_core.specs.Kept.{Live, IsOwned, IsOwnedBut, rows_at, rows_of, row_of, row_with}

-- 1 where the numbers are equal
abbrev pub one_if : ℕ → ℕ → ℕ
one_if a b = cond (nat_eq a b) 1 0

abbrev pub one_if_live : Option Node → ℕ
one_if_live node = cond (is_some node) 1 0

pub one_same : (a b : ℕ) → a ≡ b → one_if a b ≡ 1
one_same a b e = ap (λ t. cond t 1 0) ((Decides-eqb a b).1 e)

pub one_other : (a b : ℕ) → a ≢ b → one_if a b ≡ 0
one_other a b ne = by_test (nat_eq a b) (Decides-eqb a b).0
  where
    by_test : (t : Bool) → (t ≡ true → a ≡ b) → cond {A = ℕ} t 1 0 ≡ 0
    by_test true h = absurd (ne (h refl))
    by_test false h = refl

-- ## Rows

pub rows_less : (rows : List Row) (at : ℕ) (row : Row) (place : ℕ) → slice_get rows at ≡ Some row
    → rows_at (remove rows at) place + one_if row.place place ≡ rows_at rows place
rows_less rows at row place is =
    let F : Row → ℕ = λ r. cond (nat_eq r.place place) 1 0 in
    let a = sum_by-remove F rows at row (slice_get_within rows at row is) in
    let e : one_if (get_or rows at row).place place ≡ one_if row.place place = ap F (get_or_from_slice_get rows at row row is) in
    omega arith

pub rows_more : (rows : List Row) (row : Row) (place : ℕ) → rows_at (rows ++ row ∷ []) place ≡ rows_at rows place + one_if row.place place
rows_more rows row place = sum_by_push (λ (r : Row). cond (nat_eq r.place place) 1 0) rows row

pub rows_first : (row : Row) (rows : List Row) (place : ℕ) → rows_at (row ∷ rows) place ≡ one_if row.place place + rows_at rows place
rows_first row rows place = sum_by-cons (λ (r : Row). cond (nat_eq r.place place) 1 0) row rows

-- a row's place is that of some row
pub some_row : (rows : List Row) (at : ℕ) (row : Row) → slice_get rows at ≡ Some row → 1 ≤ rows_at rows row.place
some_row rows at row is = let a = rows_less rows at row row.place is in let b = one_same row.place row.place refl in omega arith

-- ## Changes of the arena

-- the context of a place ends, and all others stay
pub record IsEnded (old new : Live) (place : ℕ) : Type 0 where
  pub gone : new place ≡ None
  pub others : (other : ℕ) → other ≢ place → new other ≡ old other

-- a context begins at a place, and all others stay
pub record IsBegun (old new : Live) (place : ℕ) (node : Node) : Type 0 where
  pub free : old place ≡ None
  pub here : new place ≡ Some node
  pub others : (other : ℕ) → other ≢ place → new other ≡ old other

-- ## Owned

pub live_here : (o : Option Node) → 1 ≤ one_if_live o → IsSome o
live_here None h = absurd (omega arith)
live_here (Some node) h = refl

pub row_is_live : (live : Live) (rows : List Row) (at : ℕ) (row : Row) → IsOwned live rows → slice_get rows at ≡ Some row → IsSome (live row.place)
row_is_live live rows at row own is =
    let a = some_row rows at row is in let b = own row.place in live_here (live row.place) (omega arith)

pub apart_is_live : (live : Live) (rows : List Row) (apart : ℕ) → IsOwnedBut live rows apart → IsSome (live apart)
apart_is_live live rows apart own =
    let a = own apart in let b = one_same apart apart refl in live_here (live apart) (omega arith)

pub owned_less : (live : Live) (rows : List Row) (at : ℕ) (row : Row) → IsOwned live rows → slice_get rows at ≡ Some row → IsOwnedBut live (remove rows at) row.place
owned_less live rows at row own is place = let a = rows_less rows at row place is in let b = own place in omega arith

pub owned_again : (live : Live) (rows : List Row) (row : Row) (apart : ℕ) → IsOwnedBut live rows apart → row.place ≡ apart → IsOwned live (rows ++ row ∷ [])
owned_again live rows row apart own same place =
    let a = rows_more rows row place in let b = own place in let c : one_if row.place place ≡ one_if apart place = ap (λ p. one_if p place) same in omega arith

at_most_one : (o : Option Node) → one_if_live o ≤ 1
at_most_one None = omega arith
at_most_one (Some node) = omega arith

none_left : (o : Option Node) → o ≡ None → one_if_live o ≡ 0
none_left o e = ap one_if_live e

pub owned_ended : (old new : Live) (rows : List Row) (apart : ℕ) → IsEnded old new apart → IsOwnedBut old rows apart → IsOwned new rows
owned_ended old new rows apart h own place =
    let a = own place in
    elim (ℕ_discrete place apart) [
      | yes e ↦ (
          let gone : one_if_live (new place) ≡ 0 = none_left (new place) (ap new e ∙ h.gone) in
          let one = one_same apart place (sym e) in
          let most = at_most_one (old place) in
          omega arith)
      | no ne ↦ (
          let same : one_if_live (new place) ≡ one_if_live (old place) = ap one_if_live (h.others place ne) in
          let other = one_other apart place (λ e. ne (sym e)) in
          omega arith)
    ]

pub owned_begun : (old new : Live) (rows : List Row) (place : ℕ) (node : Node) → IsBegun old new place node → IsOwned old rows → IsOwnedBut new rows place
owned_begun old new rows begun node h own place =
    let a = own place in
    elim (ℕ_discrete place begun) [
      | yes e ↦ (
          let was : one_if_live (old place) ≡ 0 = none_left (old place) (ap old e ∙ h.free) in
          let is : one_if_live (new place) ≡ 1 = ap one_if_live (ap new e ∙ h.here) in
          let one = one_same begun place (sym e) in
          omega arith)
      | no ne ↦ (
          let same : one_if_live (new place) ≡ one_if_live (old place) = ap one_if_live (h.others place ne) in
          let other = one_other begun place (λ e. ne (sym e)) in
          omega arith)
    ]

-- the same where one place more is apart
pub owned_begun_but : (old new : Live) (rows : List Row) (apart : ℕ) (row : Row) (node : Node) → IsBegun old new row.place node → IsOwnedBut old rows apart → IsOwnedBut new (rows ++ row ∷ []) apart
owned_begun_but old new rows apart row node h own place =
    let a = own place in
    let m = rows_more rows row place in
    elim (ℕ_discrete place row.place) [
      | yes e ↦ (
          let was : one_if_live (old place) ≡ 0 = none_left (old place) (ap old e ∙ h.free) in
          let is : one_if_live (new place) ≡ 1 = ap one_if_live (ap new e ∙ h.here) in
          let one = one_same row.place place (sym e) in
          omega arith)
      | no ne ↦ (
          let same : one_if_live (new place) ≡ one_if_live (old place) = ap one_if_live (h.others place ne) in
          let other = one_other row.place place (λ e. ne (sym e)) in
          omega arith)
    ]

pub owned_ended_but : (old new : Live) (rows : List Row) (at : ℕ) (row : Row) (apart : ℕ) → IsEnded old new row.place → slice_get rows at ≡ Some row → IsOwnedBut old rows apart → IsOwnedBut new (remove rows at) apart
owned_ended_but old new rows at row apart h is own place =
    let a = own place in
    let l = rows_less rows at row place is in
    elim (ℕ_discrete place row.place) [
      | yes e ↦ (
          let gone : one_if_live (new place) ≡ 0 = none_left (new place) (ap new e ∙ h.gone) in
          let one = one_same row.place place (sym e) in
          let most = at_most_one (old place) in
          omega arith)
      | no ne ↦ (
          let same : one_if_live (new place) ≡ one_if_live (old place) = ap one_if_live (h.others place ne) in
          let other = one_other row.place place (λ e. ne (sym e)) in
          omega arith)
    ]

-- ## What the rows stand for

-- rows whose places hold the same contexts stand for the same
pub same_rows : (old new : Live) (rows : List Row) → ((place : ℕ) → 1 ≤ rows_at rows place → new place ≡ old place) → rows_of new rows ≡ rows_of old rows
same_rows old new [] h = refl
same_rows old new (row ∷ rows) h =
    let here : row_of new row ≡ row_of old row =
    ap (λ (n : Option Node). row_with row n) (h row.place (let a = rows_first row rows row.place in let b = one_same row.place row.place refl in omega arith)) in
    let there = same_rows old new rows (λ place le. h place (let a = rows_first row rows place in omega arith)) in
    ap (λ r. r ∷ rows_of new rows) here ∙ ap (λ rs. row_of old row ∷ rs) there

-- the rows' places are others than the one apart, and than one that is free
pub apart_other : (live : Live) (rows : List Row) (apart place : ℕ) → IsOwnedBut live rows apart → 1 ≤ rows_at rows place → place ≢ apart
apart_other live rows apart place own le e =
    let a = own place in
    let one = one_same apart place (sym e) in
    let most = at_most_one (live place) in
    omega arith

pub free_other : (live : Live) (rows : List Row) (apart free place : ℕ) → IsOwnedBut live rows apart → live free ≡ None → 1 ≤ rows_at rows place → place ≢ free
free_other live rows apart free place own none le e =
    let a = own place in
    let zero : one_if_live (live place) ≡ 0 = none_left (live place) (ap live e ∙ none) in
    omega arith

pub owned_is_live : (live : Live) (rows : List Row) (apart place : ℕ) → IsOwnedBut live rows apart → 1 ≤ rows_at rows place → IsSome (live place)
owned_is_live live rows apart place own le = let a = own place in live_here (live place) (omega arith)

-- a live place is that of a row
pub row_at_place : (rows : List Row) (place : ℕ) → 1 ≤ rows_at rows place → (at : ℕ) × (row : Row) × (slice_get rows at ≡ Some row) × (row.place ≡ place)
row_at_place [] place le = absurd (omega arith)
row_at_place (row ∷ rows) place le = elim (ℕ_discrete row.place place) [
  | yes e ↦ (0, row, refl, e)
  | no ne ↦ (
      let first = rows_first row rows place in
      let other = one_other row.place place ne in
      let found = row_at_place rows place (omega arith) in
      (suc found.0, found.1, found.2, found.3))
]

pub none_live : (live : Live) → IsOwned live [] → (place : ℕ) → live place ≡ None
none_live live own place = by_node (live place) (own place)
  where
    by_node : (o : Option Node) → 0 ≡ one_if_live o → o ≡ None
    by_node None e = refl
    by_node (Some node) e = absurd (omega arith)
