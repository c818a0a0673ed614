-- The end of the contexts below one, row by row from the last.
use Rattle.std.proofs.Common.{◌≡◌, ◌↔◌, ℕ, suc, ◌+◌, ◌<◌, ◌≤◌, List, ◌++◌, ap, sym, ◌∙◌, subst, filter, take, drop, get_or, slice_get, length, remove, Bool, true, false, not, IsTrue, Decides, Some, None, IsSome, arith}
use Rattle.std.specs.List.{starts_with}
use Rattle.std.proofs.lemmas.Bool.Decides.{same_from_decides}
use Rattle.std.proofs.lemmas.List.Edits.{length-remove}
use Rattle.std.proofs.lemmas.Option.{slice_get-get_or, slice_get_within}
use Rattle.dpe_handles.specs.declared.row.Row.{Row}
use Rattle.dpe_tree.specs.Tree.{Places, BeginsWith, SameElsewhere, lineage, lineage_of, live_count, context}
use Rattle.dpe_model.specs.Step.{same_birth}
use Rattle.dpe_core.specs.Kept.{Ends, IsOwnedBut, births_of, is_outside}
use Rattle.dpe_core.proofs.Owned.{some_row, apart_is_live, owned_is_live, owned_ended_but}
use Rattle.dpe_core.proofs.Places.{same_node}
use Rattle.dpe_core.proofs.Folding.{ends_from_ended}
use Rattle.dpe_core.proofs.Births.{begins-Decides}
use Rattle.dpe_core.proofs.PlainLists.{filtered_stays, filtered_goes, filtered_get}

-- The rows up to a place are as they were, and of those behind it the ones outside are left.
pub record IsEnding (first now : Places) (rows left : List Row) (apart at : ℕ) : Type 0 where
  pub within : at ≤ length rows
  pub rows_left : left ≡ take at rows ++ filter (is_outside (context first) apart) (drop at rows)
  pub owned : IsOwnedBut (context now) left apart
  pub ends : Ends (context first) (context now)
  pub many : live_count now ≡ length left + 1

module _ (first now : Places) (rows left : List Row) (apart next at : ℕ) (h : IsEnding first now rows left apart next) (one : next ≡ suc at) where
  at_next : IsEnding first now rows left apart (suc at)
  at_next = subst (IsEnding first now rows left apart) one h

  at_within : at < length rows
  at_within = let w = at_next.within in omega arith

  -- the row at the place is still there
  pub still_there : (d : Row) → slice_get left at ≡ Some (get_or rows at d)
  still_there d =
      subst (λ rs. slice_get rs at ≡ Some (get_or rows at d)) (sym at_next.rows_left)
      (filtered_get (is_outside (context first) apart) rows at (get_or rows at d) (slice_get-get_or rows at d at_within))

  module _ (row : Row) (is : slice_get left at ≡ Some row) where
    was_there : slice_get rows at ≡ Some row
    was_there = slice_get-get_or rows at row at_within ∙ (sym (still_there row) ∙ is)

    pub row_live : IsSome (context now row.place)
    row_live = owned_is_live (context now) left apart row.place h.owned (some_row left at row is)

    pub apart_live : IsSome (context now apart)
    apart_live = apart_is_live (context now) left apart h.owned

    same_lineage : (place : ℕ) → IsSome (context now place) → lineage now place ≡ lineage_of (context first place)
    same_lineage place live = ap lineage_of (sym (same_node now place live) ∙ h.ends place live)

    outside_is : (below : Bool) → (IsTrue below ↔ BeginsWith (lineage now row.place) (lineage now apart)) → is_outside (context first) apart row ≡ not below
    outside_is below says =
        let decides : Decides (starts_with same_birth (births_of (context first row.place)) (births_of (context first apart))) (BeginsWith (lineage now row.place) (lineage now apart)) =
        subst (λ l. Decides (starts_with same_birth (births_of (context first row.place)) (births_of (context first apart))) (BeginsWith l (lineage now apart))) (sym (same_lineage row.place row_live))
        (subst (λ l. Decides (starts_with same_birth (births_of (context first row.place)) (births_of (context first apart))) (BeginsWith (lineage_of (context first row.place)) l)) (sym (same_lineage apart apart_live))
        (begins-Decides (lineage_of (context first row.place)) (lineage_of (context first apart)))) in
        ap not (same_from_decides _ below decides (says.0, says.1))

    -- a row that is outside stays
    pub stays : (below : Bool) → (IsTrue below ↔ BeginsWith (lineage now row.place) (lineage now apart)) → below ≡ false → IsEnding first now rows left apart at
    stays below says no_more = record {
      within = (let w = at_within in omega arith);
      rows_left = at_next.rows_left ∙ filtered_stays (is_outside (context first) apart) rows at row was_there (outside_is below says ∙ ap not no_more);
      owned = h.owned;
      ends = h.ends;
      many = h.many;
    }

    -- the row of a context below goes
    pub goes : (below : Bool) → (IsTrue below ↔ BeginsWith (lineage now row.place) (lineage now apart)) → below ≡ true → (new : Places) (fewer : List Row) → fewer ≡ remove left at
        → context new row.place ≡ None → SameElsewhere now new row.place → live_count now ≡ live_count new + 1 → IsEnding first new rows fewer apart at
    goes below says is_below new fewer less gone others count = record {
      within = (let w = at_within in omega arith);
      rows_left = less ∙ (ap (λ rs. remove rs at) at_next.rows_left
          ∙ filtered_goes (is_outside (context first) apart) rows at row was_there (outside_is below says ∙ ap not is_below));
      owned = subst (λ rs. IsOwnedBut (context new) rs apart) (sym less)
          (owned_ended_but (context now) (context new) left at row apart (record { gone = gone; others = others }) is h.owned);
      ends = λ place live. (let e = ends_from_ended (context now) (context new) row.place (record { gone = gone; others = others }) place live in
          e ∙ h.ends place (subst IsSome e live));
      many = (let m = h.many in let l = ap length less in let f = length-remove left at (slice_get_within left at row is) in omega arith);
    }
