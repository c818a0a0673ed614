-- Default contexts: which row is that of a locality, whether there is another, and where a mark may come.
use Rattle.std.proofs.Common.{◌≡◌, ◌≢◌, ◌==◌, ℕ, ◌<◌, List, [], ◌∷◌, ◌++◌, refl, ap, ap₂, sym, zero, suc, map, ◌∙◌, subst, get_or, slice_get, length, remove, Bool, true, false, not, ◌&&◌, ◌||◌, Option, Some, None, IfSome, IfNone, All, arith}
use Rattle.std.proofs.Math.Bool.{and-true, and-false}
use Rattle.std.proofs.lemmas.List.Elements.{All-push}
use Rattle.std.proofs.lemmas.List.Folds.{list_any_none, list_any_at}
use Rattle.std.proofs.lemmas.Slice.Eq.{bytes_eq-Decides}
use Rattle.std.specs.List.{list_any}
use native.Mathlib.Decide.{ℕ_discrete, dec_lt}
use Rattle.std.specs.Option.{option_map}
use Rattle.std.specs.Str.{bytes_eq}
use Rattle.std.proofs.lemmas.Bool.Decides.{Decides-eqb}
use Rattle.std.proofs.lemmas.Option.{IfSome_then, get_or_from_slice_get, slice_get-get_or, slice_get_within, same_Some}
use Rattle.dpe_handles.specs.declared.row.Row.{Row}
use Rattle.dpe_handles.specs.Rows.{IsAscending, OneDefaultEach, IsDefaultAt, HasNoDefault}
use Rattle.dpe_model.specs.State as model
use Rattle.dpe_model.specs.Verdict.{row_for, is_default_of, is_taken}
use Rattle.dpe_core.specs.declared.contexts.Child.{Child}
use Rattle.dpe_core.specs.Contexts.{Kept, Of, IsMeantAt, IsMarkable}
use Rattle.dpe_core.specs.Kept.{Live, row_of, rows_of, row_of_child}
use Rattle.dpe_core.proofs.PlainLists.{find-map, find_first, find_none, All-slice_get}
use Rattle.dpe_core.proofs.Views.{row_seen, each_of, differs, other_handle}

-- ## The test of a mark

not_default : (locality : ℕ) (default : Bool) (n : ℕ) → (default ≡ true → n ≢ locality) → (default && n == locality) ≡ false
not_default locality true n h = by_test (n == locality) (Decides-eqb n locality).0
  where
    by_test : (t : Bool) → (t ≡ true → n ≡ locality) → t ≡ false
    by_test true k = absurd (h refl (k refl))
    by_test false k = refl
not_default locality false n h = refl

a_default : (locality : ℕ) (default : Bool) (n : ℕ) → default ≡ true → n ≡ locality → (default && n == locality) ≡ true
a_default locality default n d e = ap (λ b. b && n == locality) d ∙ (Decides-eqb n locality).1 e

-- no row before the default of a locality is one, and none behind it
other_mark : (rows : List Row) (locality at : ℕ) (row : Row) → OneDefaultEach rows → slice_get rows at ≡ Some row → row.default ≡ true → row.locality ≡ locality
    → (k : ℕ) (d : Row) → k < length rows → k ≢ at → ((get_or rows k d).default && (get_or rows k d).locality == locality) ≡ false
other_mark rows locality at row one is marked here k d lt ne =
    not_default locality (get_or rows k d).default (get_or rows k d).locality (λ m e. differ m e)
  where
    there : get_or rows at d ≡ row
    there = get_or_from_slice_get rows at row d is

    marked_there : (get_or rows at d).default ≡ true
    marked_there = ap (λ (r : Row). r.default) there ∙ marked

    here_there : (get_or rows at d).locality ≡ locality
    here_there = ap (λ (r : Row). r.locality) there ∙ here

    differ : (get_or rows k d).default ≡ true → (get_or rows k d).locality ≡ locality → ⊥
    differ m e = elim (dec_lt k at) [
      | yes below ↦ one k at d below (slice_get_within rows at row is) m marked_there (e ∙ sym here_there)
      | no above ↦ one at k d (omega arith) lt marked_there m (here_there ∙ sym e)
    ]

-- ## The default of a locality

default_is : (live : Live) (rows : List Row) (locality at : ℕ) → OneDefaultEach rows → IsDefaultAt rows locality at → IsMeantAt (rows_of live rows) locality None at
default_is live rows locality at one h =
    let within = slice_get_within rows at h.0 h.1 in (
      row_of live h.0,
      row_seen live rows at h.0 h.1,
      find-map (row_of live) (is_default_of locality) rows
          ∙ ap (option_map (row_of live)) (find_first (λ (r : Row). r.default && r.locality == locality) rows at h.0 h.1 (a_default locality h.0.default h.0.locality h.2 h.3)
          (λ k d lt. other_mark rows locality at h.0 one h.1 h.2 h.3 k d (omega arith) (λ e. absurd (omega arith)))),
    )

no_default : (live : Live) (rows : List Row) (locality : ℕ) → HasNoDefault rows locality → row_for (rows_of live rows) locality None ≡ None
no_default live rows locality h =
    find-map (row_of live) (is_default_of locality) rows
    ∙ ap (option_map (row_of live)) (find_none (λ (r : Row). r.default && r.locality == locality) rows (λ at row is. not_default locality row.default row.locality (h at row is)))

pub found_default : (seed : List ℕ) (live : Live) (rows : List Row) (before : Kept) (locality : ℕ) (found : Option ℕ) → record { seed = seed; rows = rows_of live rows } ≡ before → OneDefaultEach rows
    → IfSome found (IsDefaultAt rows locality) → IfSome found (IsMeantAt before.rows locality None)
found_default seed live rows before locality found same one h =
    subst (λ (k : Kept). IfSome found (IsMeantAt k.rows locality None)) same (IfSome_then found h (λ at is. default_is live rows locality at one is))

pub absent_default : (seed : List ℕ) (live : Live) (rows : List Row) (before : Kept) (locality : ℕ) (found : Option ℕ) → record { seed = seed; rows = rows_of live rows } ≡ before
    → IfNone found (HasNoDefault rows locality) → IfNone found (row_for before.rows locality None ≡ None)
absent_default seed live rows before locality found same h = subst (λ (k : Kept). IfNone found (row_for k.rows locality None ≡ None)) same (none found h)
  where
    none : (found : Option ℕ) → IfNone found (HasNoDefault rows locality) → IfNone found (row_for (rows_of live rows) locality None ≡ None)
    none None k = no_default live rows locality k
    none (Some at) k = tt

-- ## Whether there is another default than a row

-- the same test of the table's rows
abbrev other_default : Row → ℕ → Row → Bool
other_default row locality other = not (bytes_eq other.handle row.handle) && (other.default && other.locality == locality)

abbrev taken : List Row → Bool → Row → ℕ → Bool
taken rows stays row locality = list_any (other_default row locality) rows || stays && (row.default && row.locality == locality)

any_of_map : {X Y : Type 0} (f : X → Y) (p : Y → Bool) (xs : List X) → list_any p (map f xs) ≡ list_any (λ x. p (f x)) xs
any_of_map f p [] = refl
any_of_map f p (x ∷ xs) = ap (λ b. p (f x) || b) (any_of_map f p xs)

taken_is : (live : Live) (rows : List Row) (stays : Bool) (row : Row) (locality : ℕ) → is_taken (rows_of live rows) stays (row_of live row) locality ≡ taken rows stays row locality
taken_is live rows stays row locality =
    ap (λ b. b || stays && (row.default && row.locality == locality))
    (any_of_map (row_of live) (λ (other : model.Row). not (bytes_eq other.handle row.handle) && is_default_of locality other) rows)

-- there is none where the locality has no default
none_taken : (rows : List Row) (stays : Bool) (at : ℕ) (row : Row) (locality : ℕ) → slice_get rows at ≡ Some row → HasNoDefault rows locality → taken rows stays row locality ≡ false
none_taken rows stays at row locality is none =
    ap₂ (λ a b. a || stays && b)
    (list_any_none (other_default row locality) rows (λ k d lt.
    let other = get_or rows k d in
    ap (λ b. not (bytes_eq other.handle row.handle) && b) (not_default locality other.default other.locality (none k other (slice_get-get_or rows k d lt)))
    ∙ and-false (not (bytes_eq other.handle row.handle))))
    (not_default locality row.default row.locality (none at row is))
    ∙ and-false stays

-- none but the row itself, which may stay
own_taken : (rows : List Row) (stays : Bool) (at : ℕ) (row : Row) (locality : ℕ) → OneDefaultEach rows → slice_get rows at ≡ Some row → row.default ≡ true → row.locality ≡ locality
    → taken rows stays row locality ≡ stays
own_taken rows stays at row locality one is marked here =
    ap₂ (λ a b. a || stays && b) (list_any_none (other_default row locality) rows fails) (a_default locality row.default row.locality marked here)
    ∙ and-true stays
  where
    fails : (k : ℕ) (d : Row) → k < length rows → other_default row locality (get_or rows k d) ≡ false
    fails k d lt = elim (ℕ_discrete k at) [
      | yes same ↦ ap (λ b. not b && ((get_or rows k d).default && (get_or rows k d).locality == locality))
          ((bytes_eq-Decides (get_or rows k d).handle row.handle).1 (ap (λ (r : Row). r.handle) (ap (λ i. get_or rows i d) same ∙ get_or_from_slice_get rows at row d is)))
      | no apart ↦ ap (λ b. not (bytes_eq (get_or rows k d).handle row.handle) && b) (other_mark rows locality at row one is marked here k d lt apart)
          ∙ and-false (not (bytes_eq (get_or rows k d).handle row.handle))
    ]

-- another one
other_taken : (rows : List Row) (stays : Bool) (at : ℕ) (row : Row) (locality other : ℕ) → IsAscending rows → slice_get rows at ≡ Some row → IsDefaultAt rows locality other → other ≢ at
    → taken rows stays row locality ≡ true
other_taken rows stays at row locality other up is h apart =
    ap (λ a. a || stays && (row.default && row.locality == locality)) (list_any_at (other_default row locality) rows other h.0 (slice_get_within rows other h.0 h.1) passes)
  where
    there : get_or rows other h.0 ≡ h.0
    there = get_or_from_slice_get rows other h.0 h.0 h.1

    passes : other_default row locality (get_or rows other h.0) ≡ true
    passes = ap (other_default row locality) there
        ∙ ap₂ (λ a b. not a && b)
        (differs h.0.handle row.handle (λ e. other_handle rows at row up is other h.0 (slice_get_within rows other h.0 h.1) apart (ap (λ (r : Row). r.handle) there ∙ e)))
        (a_default locality h.0.default h.0.locality h.2 h.3)

module _ (seed : List ℕ) (live : Live) (rows : List Row) (before : Kept) (at locality : ℕ) (stays : Bool) (same : record { seed = seed; rows = rows_of live rows } ≡ before) where
  -- an answer for each row of the table
  told : (answer : Bool) → ((row : Row) → slice_get rows at ≡ Some row → answer ≡ taken rows stays row locality) → Of before.rows at (λ row. answer ≡ is_taken before.rows stays row locality)
  told answer h = subst (λ (k : Kept). Of k.rows at (λ row. answer ≡ is_taken k.rows stays row locality)) same
      (each_of live rows at (λ row. answer ≡ is_taken (rows_of live rows) stays row locality) (λ row is. h row is ∙ sym (taken_is live rows stays row locality)))

  pub told_none : HasNoDefault rows locality → Of before.rows at (λ row. false ≡ is_taken before.rows stays row locality)
  told_none none = told false (λ row is. sym (none_taken rows stays at row locality is none))

  module _ (up : IsAscending rows) (one : OneDefaultEach rows) (other : ℕ) (found : IsDefaultAt rows locality other) where
    own_here : (row : Row) → slice_get rows at ≡ Some row → other ≡ at → taken rows stays row locality ≡ stays
    own_here row is e =
        let it : found.0 ≡ row = same_Some found.0 row (sym found.1 ∙ (ap (slice_get rows) e ∙ is)) in
        own_taken rows stays at row locality one is (ap (λ (r : Row). r.default) (sym it) ∙ found.2) (ap (λ (r : Row). r.locality) (sym it) ∙ found.3)

    -- where the row stays, any default counts
    pub told_staying : stays ≡ true → Of before.rows at (λ row. stays ≡ is_taken before.rows stays row locality)
    told_staying s = told stays (λ row is. elim (ℕ_discrete other at) [
      | yes e ↦ sym (own_here row is e)
      | no ne ↦ s ∙ sym (other_taken rows stays at row locality other up is found ne)
    ])

    -- and else any but the row itself
    pub told_leaving : stays ≡ false → Of before.rows at (λ row. not (other == at) ≡ is_taken before.rows stays row locality)
    told_leaving s = told (not (other == at)) (λ row is. elim (ℕ_discrete other at) [
      | yes e ↦ ap not ((Decides-eqb other at).1 e) ∙ (sym s ∙ sym (own_here row is e))
      | no ne ↦ ap not (unequal ne) ∙ sym (other_taken rows stays at row locality other up is found ne)
    ])
      where
        unequal : other ≢ at → (other == at) ≡ false
        unequal ne = not_default at true other (λ _. ne)

-- ## Where a mark may come

neither : (a b : Bool) → (a || b) ≡ false → (a ≡ false) × (b ≡ false)
neither true b h = absurd cc
neither false b h = (refl, h)

-- a row that is left stood at another place
left_other : (rows : List Row) (at j : ℕ) (other : Row) → slice_get (remove rows at) j ≡ Some other → (k : ℕ) × (slice_get rows k ≡ Some other) × (k ≢ at)
left_other [] zero j other is = (j, is, λ e. absurd cc)
left_other [] (suc at) j other is = (j, is, λ e. absurd cc)
left_other (x ∷ rows) zero j other is = (suc j, is, λ e. absurd (omega arith))
left_other (x ∷ rows) (suc at) zero other is = (0, is, λ e. absurd (omega arith))
left_other (x ∷ rows) (suc at) (suc j) other is =
    let h = left_other rows at j other is in
    let apart = h.2 in
    (suc h.0, h.1, λ e. apart (omega arith))

-- the same row under another handle
pub mark_again : (rows left : List Row) (at : ℕ) (row : Row) → OneDefaultEach rows → slice_get rows at ≡ Some row → left ≡ remove rows at → row.default ≡ true → HasNoDefault left row.locality
mark_again rows left at row one is less marked j other there m e =
    let h = left_other rows at j other (ap (λ rs. slice_get rs j) (sym less) ∙ there) in
    let here : get_or rows h.0 other ≡ other = get_or_from_slice_get rows h.0 other other h.1 in
    let fails = other_mark rows row.locality at row one is marked refl h.0 other (slice_get_within rows h.0 other h.1) h.2 in
    let passes = a_default row.locality (get_or rows h.0 other).default (get_or rows h.0 other).locality (ap (λ (r : Row). r.default) here ∙ m) (ap (λ (r : Row). r.locality) here ∙ e) in
    absurd cc

module _ (seed : List ℕ) (live : Live) (rows left : List Row) (before : Kept) (at : ℕ) (row : Row) (same : record { seed = seed; rows = rows_of live rows } ≡ before) (up : IsAscending rows) (is : slice_get rows at ≡ Some row) (less : left ≡ remove rows at) where
  pub seen_here : slice_get before.rows at ≡ Some (row_of live row)
  seen_here = subst (λ (k : Kept). slice_get k.rows at ≡ Some (row_of live row)) same (row_seen live rows at row is)

  module _ (default stays : Bool) (locality : ℕ) (may : IsMarkable before.rows default stays locality (row_of live row)) where
    free : default ≡ true → (list_any (other_default row locality) rows ≡ false) × ((stays && (row.default && row.locality == locality)) ≡ false)
    free d = neither (list_any (other_default row locality) rows) (stays && (row.default && row.locality == locality))
        (sym (taken_is live rows stays row locality) ∙ subst (λ (k : Kept). is_taken k.rows stays (row_of live row) locality ≡ false) (sym same) (may d))

    -- a default of a locality that has no other
    pub mark_anew : default ≡ true → HasNoDefault left locality
    mark_anew d j other there m e =
        let h = left_other rows at j other (ap (λ rs. slice_get rs j) (sym less) ∙ there) in
        let within = slice_get_within rows h.0 other h.1 in
        let here : get_or rows h.0 other ≡ other = get_or_from_slice_get rows h.0 other other h.1 in
        let passes : other_default row locality (get_or rows h.0 other) ≡ true = ap (other_default row locality) here
        ∙ ap₂ (λ a b. not a && b) (differs other.handle row.handle (λ same_handle. other_handle rows at row up is h.0 other within h.2 (ap (λ (r : Row). r.handle) here ∙ same_handle)))
        (a_default locality other.default other.locality m e) in
        let any = list_any_at (other_default row locality) rows h.0 other within passes in
        let none = (free d).0 in
        absurd cc

    -- the row isn't one of that locality where it stays beside it
    pub parent_differs : default ≡ true → stays ≡ true → row.default ≡ true → locality ≢ row.locality
    parent_differs d s marked e =
        let passes = a_default locality row.default row.locality marked (sym e) in
        let none = (free d).1 in
        absurd cc

-- of a child's row
pub mark_of_child : (rest : List Row) (c : Child) (r : Row) (place : ℕ) → r ≡ row_of_child c place → (c.default ≡ true → HasNoDefault rest c.locality) → r.default ≡ true → HasNoDefault rest r.locality
mark_of_child rest c r place is_row h = subst (λ (x : Row). x.default ≡ true → HasNoDefault rest x.locality) (sym is_row) h

-- and of its parent's behind it
pub mark_of_parent : (rest now : List Row) (c : Child) (r row : Row) (place : ℕ) → r ≡ row_of_child c place → now ≡ rest ++ r ∷ [] → (row.default ≡ true → HasNoDefault rest row.locality)
    → (c.default ≡ true → row.default ≡ true → c.locality ≢ row.locality) → row.default ≡ true → HasNoDefault now row.locality
mark_of_parent rest now c r row place is_row pushes before apart marked =
    let Other : Row → Type 0 = λ other. other.default ≡ true → other.locality ≢ row.locality in
    let none = before marked in
    let all : All Other now = subst (All Other) (sym pushes) (All-push Other rest r (λ k d lt. none k (get_or rest k d) (slice_get-get_or rest k d lt)) (subst Other (sym is_row) (λ d. apart d marked))) in
    λ at other is. All-slice_get Other now at other all is
