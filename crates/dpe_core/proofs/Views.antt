-- What the rows stand for, as rows come and go.
use Rattle.std.proofs.Common.{◌≡◌, ◌≢◌, ℕ, ◌<◌, List, [], ◌∷◌, refl, ap, sym, ◌∙◌, subst, map, get_or, slice_get, length, remove, Bool, true, false, not, Option, Some, None, IfSome, IfNone, arith}
use Rattle.std.specs.Option.{option_map}
use Rattle.std.specs.Str.{bytes_eq}
use Rattle.std.proofs.lemmas.Slice.Eq.{bytes_eq-Decides}
use Rattle.std.proofs.lemmas.Option.{IfSome_then, slice_get-map, same_Some, get_or_from_slice_get, slice_get_within}
use Rattle.std.proofs.lemmas.List.{length-map}
use native.Mathlib.Decide.{dec_lt}
use Rattle.dpe_handles.specs.declared.row.Row.{Row}
use Rattle.dpe_handles.specs.Rows.{serial, IsAscending, HasHandle, HasNoHandle}
use Rattle.dpe_tree.specs.Tree as tree
use Rattle.dpe_model.specs.State as model
use Rattle.dpe_model.specs.Step.{taken_out}
use Rattle.dpe_model.specs.LiveRows.{live_of}
use Rattle.dpe_model.specs.Verdict.{row_for}
use Rattle.dpe_core.specs.Contexts.{Kept, Of, IsMeantAt}
use Rattle.dpe_core.specs.Kept.{Live, birth_of, row_of, rows_of, IsOwned}
use Rattle.dpe_core.proofs.Owned.{row_is_live}
use Rattle.dpe_core.proofs.Places.{same_node}
use Rattle.dpe_core.proofs.PlainLists.{filter_but, filter-map, find-map, find_first, find_none}

-- ## The row at a place

pub of_row : (live : Live) (rows : List Row) (at : ℕ) (row : Row) (P : model.Row → Type 0) → slice_get rows at ≡ Some row → P (row_of live row) → Of (rows_of live rows) at P
of_row live rows at row P is h seen there =
    subst P (same_Some (row_of live row) seen (ap (option_map (row_of live)) (sym is) ∙ (sym (slice_get-map (row_of live) rows at) ∙ there))) h

-- a fact of the row at a place holds of the row that it stands for
pub each_of : (live : Live) (rows : List Row) (at : ℕ) (P : model.Row → Type 0) → ((row : Row) → slice_get rows at ≡ Some row → P (row_of live row)) → Of (rows_of live rows) at P
each_of live rows at P h seen there = by_row (slice_get rows at) refl (sym (slice_get-map (row_of live) rows at) ∙ there)
  where
    by_row : (found : Option Row) → slice_get rows at ≡ found → option_map (row_of live) found ≡ Some seen → P seen
    by_row None is e = absurd cc
    by_row (Some row) is e = subst P (same_Some (row_of live row) seen e) (h row is)

pub row_seen : (live : Live) (rows : List Row) (at : ℕ) (row : Row) → slice_get rows at ≡ Some row → slice_get (rows_of live rows) at ≡ Some (row_of live row)
row_seen live rows at row is = slice_get-map (row_of live) rows at ∙ ap (option_map (row_of live)) is

-- ## Handles

pub differs : (a b : List ℕ) → a ≢ b → bytes_eq a b ≡ false
differs a b ne = by_test (bytes_eq a b) (bytes_eq-Decides a b).0
  where
    by_test : (t : Bool) → (t ≡ true → a ≡ b) → t ≡ false
    by_test true h = absurd (ne (h refl))
    by_test false h = refl

pub other_handle : (rows : List Row) (at : ℕ) (row : Row) → IsAscending rows → slice_get rows at ≡ Some row → (k : ℕ) (d : Row) → k < length rows → k ≢ at → (get_or rows k d).handle ≢ row.handle
other_handle rows at row up is k d lt ne e =
    let here : serial (get_or rows at d).handle ≡ serial row.handle = ap (λ (r : Row). serial r.handle) (get_or_from_slice_get rows at row d is) in
    let same : serial (get_or rows k d).handle ≡ serial row.handle = ap serial e in
    let within = slice_get_within rows at row is in
    elim (dec_lt k at) [
      | yes below ↦ (let a = up k at d below within in omega arith)
      | no above ↦ (let a = up at k d (omega arith) lt in omega arith)
    ]

pub taken_out_is : (live : Live) (rows : List Row) (at : ℕ) (row : Row) → IsAscending rows → slice_get rows at ≡ Some row → taken_out (row_of live row) (rows_of live rows) ≡ rows_of live (remove rows at)
taken_out_is live rows at row up is =
    let test : model.Row → Bool = λ other. not (bytes_eq other.handle row.handle) in
    filter-map (row_of live) test rows
    ∙ ap (rows_of live) (filter_but (λ (r : Row). not (bytes_eq r.handle row.handle)) rows at (slice_get_within rows at row is)
    (λ d. ap not ((bytes_eq-Decides _ _).1 (ap (λ (r : Row). r.handle) (get_or_from_slice_get rows at row d is))))
    (λ k d lt ne. ap not (differs _ _ (other_handle rows at row up is k d lt ne))))

pub named_is : (live : Live) (rows : List Row) (locality at : ℕ) (row : Row) → IsAscending rows → slice_get rows at ≡ Some row → row_for (rows_of live rows) locality (Some row.handle) ≡ Some (row_of live row)
named_is live rows locality at row up is =
    find-map (row_of live) (λ (r : model.Row). bytes_eq r.handle row.handle) rows
    ∙ ap (option_map (row_of live)) (find_first (λ (r : Row). bytes_eq r.handle row.handle) rows at row is ((bytes_eq-Decides row.handle row.handle).1 refl)
    (λ k d lt. differs _ _ (other_handle rows at row up is k d (let w = slice_get_within rows at row is in omega arith) (λ e. absurd (omega arith)))))

pub not_named : (live : Live) (rows : List Row) (locality : ℕ) (handle : List ℕ) → ((at : ℕ) (row : Row) → slice_get rows at ≡ Some row → row.handle ≢ handle) → row_for (rows_of live rows) locality (Some handle) ≡ None
not_named live rows locality handle h =
    find-map (row_of live) (λ (r : model.Row). bytes_eq r.handle handle) rows
    ∙ ap (option_map (row_of live)) (find_none (λ (r : Row). bytes_eq r.handle handle) rows (λ at row is. differs _ _ (h at row is)))

-- ## What is told of rows

pub named_at : (live : Live) (rows : List Row) (locality : ℕ) (handle : List ℕ) (at : ℕ) → IsAscending rows → HasHandle rows handle at → IsMeantAt (rows_of live rows) locality (Some handle) at
named_at live rows locality handle at up h =
    (row_of live h.0, row_seen live rows at h.0 h.1, subst (λ t. row_for (rows_of live rows) locality (Some t) ≡ Some (row_of live h.0)) h.2 (named_is live rows locality at h.0 up h.1))

pub found_handle : (seed : List ℕ) (live : Live) (rows : List Row) (before : Kept) (handle : List ℕ) (found : Option ℕ) → record { seed = seed; rows = rows_of live rows } ≡ before → IsAscending rows
    → IfSome found (HasHandle rows handle) → (locality : ℕ) → IfSome found (IsMeantAt before.rows locality (Some handle))
found_handle seed live rows before handle found same up h locality =
    subst (λ (k : Kept). IfSome found (IsMeantAt k.rows locality (Some handle))) same (IfSome_then found h (λ at is. named_at live rows locality handle at up is))

pub absent_handle : (seed : List ℕ) (live : Live) (rows : List Row) (before : Kept) (handle : List ℕ) (found : Option ℕ) → record { seed = seed; rows = rows_of live rows } ≡ before
    → IfNone found (HasNoHandle rows handle) → (locality : ℕ) → IfNone found (row_for before.rows locality (Some handle) ≡ None)
absent_handle seed live rows before handle found same h locality = subst (λ (k : Kept). IfNone found (row_for k.rows locality (Some handle) ≡ None)) same (none found h)
  where
    none : (found : Option ℕ) → IfNone found (HasNoHandle rows handle) → IfNone found (row_for (rows_of live rows) locality (Some handle) ≡ None)
    none None k = not_named live rows locality handle k
    none (Some at) k = tt

same_mode : (m : ℕ) (births : List tree.Birth) → model.last_mode m (map birth_of births) ≡ tree.last_mode m births
same_mode m [] = refl
same_mode m (birth ∷ births) = same_mode birth.input.mode births

pub told_row : (seed : List ℕ) (places : tree.Places) (rows : List Row) (before : Kept) (at : ℕ) (row : Row) (depth mode : ℕ) → record { seed = seed; rows = rows_of (tree.context places) rows } ≡ before → IsOwned (tree.context places) rows
    → slice_get rows at ≡ Some row → depth ≡ tree.depth places row.place → mode ≡ tree.mode places row.place
    → option_map live_of (slice_get before.rows at) ≡ Some (record { handle = row.handle; locality = row.locality; depth = depth; mode = mode; may_derive = row.may_derive })
told_row seed places rows before at row depth mode same own is is_depth is_mode =
    let live = row_is_live (tree.context places) rows at row own is in
    let there = same_node places row.place live in
    let deep : model.depth (row_of (tree.context places) row) ≡ depth =
    length-map (tree.lineage_of (tree.context places row.place)) birth_of ∙ (ap (λ o. length (tree.lineage_of o)) there ∙ sym is_depth) in
    let last : model.mode (row_of (tree.context places) row) ≡ mode =
    same_mode 0 (tree.lineage_of (tree.context places row.place)) ∙ (ap (λ o. tree.last_mode 0 (tree.lineage_of o)) there ∙ sym is_mode) in
    ap (λ (k : Kept). option_map live_of (slice_get k.rows at)) (sym same)
    ∙ (ap (option_map live_of) (row_seen (tree.context places) rows at row is)
    ∙ (λ i. Some (record { handle = row.handle; locality = row.locality; depth = deep i; mode = last i; may_derive = row.may_derive })))

pub told_locality : (seed : List ℕ) (live : Live) (rows : List Row) (before : Kept) (at : ℕ) (row : Row) → record { seed = seed; rows = rows_of live rows } ≡ before → slice_get rows at ≡ Some row
    → option_map (λ (r : model.Row). r.locality) (slice_get before.rows at) ≡ Some row.locality
told_locality seed live rows before at row same is =
    ap (λ (k : Kept). option_map (λ (r : model.Row). r.locality) (slice_get k.rows at)) (sym same)
    ∙ ap (option_map (λ (r : model.Row). r.locality)) (row_seen live rows at row is)
