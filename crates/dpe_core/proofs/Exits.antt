-- What the calls that change the contexts come to.
use Rattle.std.proofs.Common.{◌≡◌, ℕ, ◌+◌, ◌<◌, List, [], ◌∷◌, ◌++◌, refl, ap, sym, ◌∙◌, subst, filter, slice_get, length, remove, Bool, not, Some, None, IsSome, All, append_assoc, length-append, arith}
use Rattle.std.specs.List.{starts_with}
use Rattle.std.proofs.lemmas.List.{map-append, length-map}
use Rattle.std.proofs.lemmas.List.Elements.{All-push, All-weaker}
use Rattle.std.proofs.lemmas.List.Edits.{length-remove}
use Rattle.std.proofs.lemmas.Option.{slice_get_within}
use Rattle.dpe_inputs.specs.declared.Input.{Input}
use Rattle.dpe_inputs.specs.declared.Cdis.{Cdis}
use Rattle.dpe_inputs.specs.Cdi.{attest_step, seal_step}
use Rattle.dpe_handles.specs.declared.row.Row.{Row}
use Rattle.dpe_handles.specs.Rows.{serial, IsAscending}
use Rattle.dpe_tree.specs.Tree.{Places, Node, lineage, lineage_of, cdis, live_count, context, with_node, ended, child, IsFree, IsTree, SameElsewhere, depth, place_limit, depth_limit, context_limit}
use Rattle.dpe_tree.specs.Tree.{IsUnborn as unborn}
use Rattle.dpe_model.specs.State as model
use Rattle.dpe_model.specs.declared.lineage.Birth as births
use Rattle.dpe_model.specs.Step.{renamed, taken_out, family_out, same_birth}
use Rattle.dpe_core.specs.declared.contexts.Child.{Child}
use Rattle.dpe_core.specs.Contexts.{Kept, Of, AreCdis, IsAfter, IsUnborn, with_rows, child_of}
use Rattle.dpe_core.specs.Kept.{Live, Keeps, Ends, IsOwned, IsOwnedBut, birth_of, births_of, row_of, row_with, row_of_child, rows_of, is_outside, IsFolded, AreFolded}
use Rattle.dpe_core.proofs.Owned.{IsEnded, IsBegun, row_is_live, owned_less, owned_again, owned_ended, owned_begun, owned_begun_but, apart_other, free_other, owned_is_live, same_rows}
use Rattle.dpe_core.proofs.Places.{is_live_place, is_used_place, is_place, same_node, ends_at, begins_at, still_free, is_free, apart_from_free}
use Rattle.dpe_core.proofs.Folding.{folded_ends, folded_ended, folded_begun, folded_place, folded_child}
use Rattle.dpe_core.proofs.Births.{unborn_place}
use Rattle.dpe_core.proofs.PlainLists.{filter-map, All-remove, All-from_map}
use Rattle.dpe_core.proofs.Views.{of_row, row_seen, taken_out_is}

-- the contexts of a seed
abbrev kept : List ℕ → List model.Row → Kept
kept seed rows = record { seed = seed; rows = rows }

-- A call that changes the rows by their row at a place.
pub changed : (seed : List ℕ) (live : Live) (rows : List Row) (before : Kept) (at : ℕ) (row : Row) (after : model.Row → List model.Row → List model.Row) (now : List model.Row)
    → record { seed = seed; rows = rows_of live rows } ≡ before → slice_get rows at ≡ Some row → now ≡ after (row_of live row) (rows_of live rows)
    → Of before.rows at (λ r. record { seed = seed; rows = now } ≡ with_rows before (after r before.rows))
changed seed live rows before at row after now same is h =
    subst (λ k. Of k.rows at (λ r. kept seed now ≡ with_rows k (after r k.rows))) same
    (of_row live rows at row (λ r. kept seed now ≡ kept seed (after r (rows_of live rows))) is (ap (kept seed) h))

pushed : (live : Live) (rest now : List Row) (row : Row) → now ≡ rest ++ row ∷ [] → rows_of live now ≡ rows_of live rest ++ row_of live row ∷ []
pushed live rest now row is = ap (rows_of live) is ∙ map-append (row_of live) rest (row ∷ [])

-- ## The requirements of the table

-- rows with lesser serials
pub last_of : (live : Live) (rows : List Row) (handle : List ℕ) → IsAfter (rows_of live rows) (model.serial handle) → All (λ (r : Row). serial r.handle < serial handle) rows
unfolding serial
last_of live rows handle h = All-from_map (λ (r : model.Row). model.serial r.handle < model.serial handle) (row_of live) rows h

pub last_left : (seed : List ℕ) (live : Live) (rows rest : List Row) (before : Kept) (at : ℕ) (handle : List ℕ) → record { seed = seed; rows = rows_of live rows } ≡ before → rest ≡ remove rows at
    → IsAfter before.rows (model.serial handle) → All (λ (r : Row). serial r.handle < serial handle) rest
last_left seed live rows rest before at handle same is h =
    let all = last_of live rows handle (subst (λ (k : Kept). IsAfter k.rows (model.serial handle)) (sym same) h) in
    subst (λ rs. All (λ (r : Row). serial r.handle < serial handle) rs) (sym is) (All-remove (λ (r : Row). serial r.handle < serial handle) rows at all)

-- the same of a child's row
pub last_of_child : (seed : List ℕ) (live : Live) (rows rest : List Row) (before : Kept) (at : ℕ) (c : Child) (r : Row) (place : ℕ) → r ≡ row_of_child c place
    → record { seed = seed; rows = rows_of live rows } ≡ before → rest ≡ remove rows at → IsAfter before.rows (model.serial c.handle) → All (λ (other : Row). serial other.handle < serial r.handle) rest
last_of_child seed live rows rest before at c r place is_row same is h =
    subst (λ (x : Row). All (λ (other : Row). serial other.handle < serial x.handle) rest) (sym is_row) (last_left seed live rows rest before at c.handle same is h)

-- and of its parent's behind it
pub last_of_parent : (rest now : List Row) (c : Child) (r : Row) (place : ℕ) (handle : List ℕ) → r ≡ row_of_child c place
    → now ≡ rest ++ r ∷ [] → model.serial c.handle < model.serial handle → All (λ (other : Row). serial other.handle < serial r.handle) rest → All (λ (other : Row). serial other.handle < serial handle) now
unfolding serial
last_of_parent rest now c r place handle is_row pushes less h =
    let P : Row → Type 0 = λ other. serial other.handle < serial handle in
    let here : P r = subst P (sym is_row) less in
    subst (All P) (sym pushes) (All-push P rest r (All-weaker (λ (other : Row). serial other.handle < serial r.handle) P (λ other a. lt_trans (serial other.handle) (serial r.handle) (serial handle) a here) rest h) here)
  where
    lt_trans : (a b d : ℕ) → a < b → b < d → a < d
    lt_trans a b d h k = omega arith

-- there is room for the parent's
pub room_again : (seed : List ℕ) (live : Live) (rows rest now : List Row) (before : Kept) (at : ℕ) (r : Row) → record { seed = seed; rows = rows_of live rows } ≡ before → rest ≡ remove rows at → now ≡ rest ++ r ∷ []
    → at < length before.rows → length before.rows < context_limit → length now < context_limit
room_again seed live rows rest now before at r same is pushes place room =
    let all : length before.rows ≡ length rows = sym (ap (λ (k : Kept). length k.rows) same) ∙ length-map rows (row_of live) in
    let less = length-remove rows at (omega arith) in
    let left = ap length is in
    let more = ap length pushes in
    let one = length-append rest (r ∷ []) in
    omega arith

-- ## One row spent

module _ (seed : List ℕ) (tree : Places) (rows : List Row) (keeps : Keeps seed tree rows) (at : ℕ) (row : Row) (is : slice_get rows at ≡ Some row) (rest : List Row) (left : rest ≡ remove rows at) where
  here : IsSome (context tree row.place)
  here = row_is_live (context tree) rows at row keeps.owned is

  pub but : IsOwnedBut (context tree) rest row.place
  but = subst (λ rs. IsOwnedBut (context tree) rs row.place) (sym left) (owned_less (context tree) rows at row keeps.owned is)

  fewer : length rest + 1 ≡ length rows
  fewer = ap (λ rs. length rs + 1) left ∙ length-remove rows at (slice_get_within rows at row is)

  out : IsAscending rows → rows_of (context tree) rest ≡ taken_out (row_of (context tree) row) (rows_of (context tree) rows)
  out up = ap (rows_of (context tree)) left ∙ sym (taken_out_is (context tree) rows at row up is)

  -- a new handle
  pub keeps_renamed : (again : Row) (now : List Row) → again.place ≡ row.place → now ≡ rest ++ again ∷ [] → Keeps seed tree now
  keeps_renamed again now same pushes = record {
    owned = subst (IsOwned (context tree)) (sym pushes) (owned_again (context tree) rest again row.place but same);
    folded = keeps.folded;
    many = (let m = keeps.many in let f = fewer in let l = ap length pushes in let a = length-append rest (again ∷ []) in omega arith);
  }

  pub rows_again : IsAscending rows → (again : Row) (now : List Row) (new : model.Row) → row_of (context tree) again ≡ new → now ≡ rest ++ again ∷ []
      → rows_of (context tree) now ≡ taken_out (row_of (context tree) row) (rows_of (context tree) rows) ++ new ∷ []
  rows_again up again now new same pushes =
      pushed (context tree) rest now again pushes
      ∙ (ap (λ rs. rs ++ row_of (context tree) again ∷ []) (out up)
      ∙ ap (λ r. taken_out (row_of (context tree) row) (rows_of (context tree) rows) ++ r ∷ []) same)

  -- an end
  ends_here : (new : Places) → context new row.place ≡ None → SameElsewhere tree new row.place → IsEnded (context tree) (context new) row.place
  ends_here new gone others = record { gone = gone; others = others }

  pub keeps_less : (new : Places) → context new row.place ≡ None → SameElsewhere tree new row.place → live_count tree ≡ live_count new + 1 → Keeps seed new rest
  keeps_less new gone others count = record {
    owned = owned_ended (context tree) (context new) rest row.place (ends_here new gone others) but;
    folded = folded_ended seed (context tree) (context new) row.place (ends_here new gone others) keeps.folded;
    many = (let m = keeps.many in let f = fewer in omega arith);
  }

  pub rows_less : IsAscending rows → (new : Places) → SameElsewhere tree new row.place → rows_of (context new) rest ≡ taken_out (row_of (context tree) row) (rows_of (context tree) rows)
  rows_less up new others =
      same_rows (context tree) (context new) rest (λ place le. others place (apart_other (context tree) rest row.place place but le)) ∙ out up

  -- an end, after those of the contexts below
  pub keeps_family : (mid new : Places) (outside : List Row) → IsOwnedBut (context mid) outside row.place → Ends (context tree) (context mid) → live_count mid ≡ length outside + 1
      → context new row.place ≡ None → SameElsewhere mid new row.place → live_count mid ≡ live_count new + 1 → Keeps seed new outside
  keeps_family mid new outside own ends many gone others count = record {
    owned = owned_ended (context mid) (context new) outside row.place (record { gone = gone; others = others }) own;
    folded = folded_ended seed (context mid) (context new) row.place (record { gone = gone; others = others }) (folded_ends seed (context tree) (context mid) ends keeps.folded);
    many = omega arith;
  }

  pub rows_family : IsAscending rows → (mid new : Places) (outside : List Row) → outside ≡ filter (is_outside (context tree) row.place) rest → IsOwnedBut (context mid) outside row.place → Ends (context tree) (context mid)
      → SameElsewhere mid new row.place → rows_of (context new) outside ≡ family_out (row_of (context tree) row) (taken_out (row_of (context tree) row) (rows_of (context tree) rows))
  rows_family up mid new outside filtered own ends others =
      let test : model.Row → Bool = λ other. not (starts_with same_birth other.lineage (births_of (context tree row.place))) in
      same_rows (context tree) (context new) outside (λ place le.
      others place (apart_other (context mid) outside row.place place own le) ∙ ends place (owned_is_live (context mid) outside row.place place own le))
      ∙ (ap (rows_of (context tree)) filtered
      ∙ (sym (filter-map (row_of (context tree)) test rest) ∙ ap (filter test) (out up)))

  -- ## A child

  abbrev node_of : ℕ → Input → Cdis → Node
  node_of n input new_cdis = child tree row.place n input new_cdis

  child_folded : (n : ℕ) (input : Input) (old_cdis new_cdis : Cdis) → old_cdis ≡ cdis tree row.place → new_cdis.attest ≡ attest_step old_cdis.attest input → new_cdis.seal ≡ seal_step old_cdis.seal input
      → IsFolded seed (Some (node_of n input new_cdis))
  child_folded n input old_cdis new_cdis old_is attest seal =
      let at_parent : AreFolded seed (births_of (context tree row.place)) old_cdis =
      subst (AreFolded seed (births_of (context tree row.place))) (sym old_is) (folded_place seed tree row.place here (keeps.folded row.place)) in
      folded_child seed (lineage tree row.place) (record { serial = n; input = input }) old_cdis new_cdis
      (subst (λ o. AreFolded seed (births_of o) old_cdis) (same_node tree row.place here) at_parent) attest seal

  -- what the row of the child stands for
  child_seen : (new : Places) (c : Child) (place n : ℕ) (input : Input) (new_cdis : Cdis) (r : Row) → r ≡ row_of_child c place
      → context new place ≡ Some (node_of n input new_cdis) → row_of (context new) r ≡ child_of (row_of (context tree) row) c n input
  child_seen new c place n input new_cdis r is_row is_node =
      let with_lineage : List births.Birth → model.Row = λ l. record { handle = c.handle; locality = c.locality; may_derive = c.may_derive; default = c.default; lineage = l } in
      ap (row_of (context new)) is_row
      ∙ (ap (λ o. with_lineage (births_of o)) is_node
      ∙ (ap with_lineage (map-append birth_of (lineage tree row.place) (record { serial = n; input = input } ∷ []))
      ∙ ap (λ o. with_lineage (births_of o ++ record { serial = n; input = input } ∷ [])) (sym (same_node tree row.place here))))

  -- the child in the place of its parent
  module _ (new : Places) (place n : ℕ) (input : Input) (new_cdis : Cdis) (free : IsFree tree place) (is_new : new ≡ with_node (ended tree row.place) place (node_of n input new_cdis)) where
    ends_parent : IsEnded (context tree) (context (ended tree row.place)) row.place
    ends_parent = ends_at tree row.place (is_place tree row.place (is_used_place tree row.place here))

    begins_child : IsBegun (context (ended tree row.place)) (context new) place (node_of n input new_cdis)
    begins_child = begins_at (ended tree row.place) new place (node_of n input new_cdis) new_cdis (still_free tree place row.place free (is_live_place tree row.place here)) refl is_new

    pub keeps_derived : (old_cdis : Cdis) (r : Row) (now : List Row) → old_cdis ≡ cdis tree row.place → new_cdis.attest ≡ attest_step old_cdis.attest input → new_cdis.seal ≡ seal_step old_cdis.seal input
        → live_count new ≡ live_count tree → r.place ≡ place → now ≡ rest ++ r ∷ [] → Keeps seed new now
    keeps_derived old_cdis r now old_is attest seal count same pushes = record {
      owned = subst (IsOwned (context new)) (sym pushes) (owned_again (context new) rest r place
          (owned_begun (context (ended tree row.place)) (context new) rest place (node_of n input new_cdis) begins_child
          (owned_ended (context tree) (context (ended tree row.place)) rest row.place ends_parent but)) same);
      folded = folded_begun seed (context (ended tree row.place)) (context new) place (node_of n input new_cdis) begins_child
          (child_folded n input old_cdis new_cdis old_is attest seal)
          (folded_ended seed (context tree) (context (ended tree row.place)) row.place ends_parent keeps.folded);
      many = (let m = keeps.many in let f = fewer in let l = ap length pushes in let a = length-append rest (r ∷ []) in omega arith);
    }

    pub rows_derived : IsAscending rows → (c : Child) (r : Row) (now : List Row) → r ≡ row_of_child c place → now ≡ rest ++ r ∷ []
        → rows_of (context new) now ≡ taken_out (row_of (context tree) row) (rows_of (context tree) rows) ++ child_of (row_of (context tree) row) c n input ∷ []
    rows_derived up c r now is_row pushes =
        let stays : rows_of (context new) rest ≡ rows_of (context tree) rest = same_rows (context tree) (context new) rest (λ other le.
        begins_child.others other (free_other (context tree) rest row.place place other but (is_free tree place free) le)
        ∙ ends_parent.others other (apart_other (context tree) rest row.place other but le)) in
        pushed (context new) rest now r pushes
        ∙ (ap (λ rs. rs ++ row_of (context new) r ∷ []) (stays ∙ out up)
        ∙ ap (λ x. taken_out (row_of (context tree) row) (rows_of (context tree) rows) ++ x ∷ []) (child_seen new c place n input new_cdis r is_row begins_child.here))

  -- the child beside its parent
  module _ (new : Places) (place n : ℕ) (input : Input) (new_cdis : Cdis) (free : IsFree tree place) (is_new : new ≡ with_node tree place (node_of n input new_cdis)) (r again : Row) (more now : List Row) (pushes : more ≡ rest ++ r ∷ []) (pushes_again : now ≡ more ++ again ∷ []) where
    begins_beside : IsBegun (context tree) (context new) place (node_of n input new_cdis)
    begins_beside = begins_at tree new place (node_of n input new_cdis) new_cdis free refl is_new

    pub keeps_more : (old_cdis : Cdis) → old_cdis ≡ cdis tree row.place → new_cdis.attest ≡ attest_step old_cdis.attest input → new_cdis.seal ≡ seal_step old_cdis.seal input
        → live_count new ≡ live_count tree + 1 → r.place ≡ place → again.place ≡ row.place → Keeps seed new now
    keeps_more old_cdis old_is attest seal count same same_again =
        let begins : IsBegun (context tree) (context new) r.place (node_of n input new_cdis) =
        subst (λ p. IsBegun (context tree) (context new) p (node_of n input new_cdis)) (sym same) begins_beside in
        let own : IsOwnedBut (context new) more row.place =
        subst (λ rs. IsOwnedBut (context new) rs row.place) (sym pushes) (owned_begun_but (context tree) (context new) rest row.place r (node_of n input new_cdis) begins but) in
        record {
          owned = subst (IsOwned (context new)) (sym pushes_again) (owned_again (context new) more again row.place own same_again);
          folded = folded_begun seed (context tree) (context new) place (node_of n input new_cdis) begins_beside (child_folded n input old_cdis new_cdis old_is attest seal) keeps.folded;
          many = (
              let m = keeps.many in let f = fewer in
              let l = ap length pushes in let a = length-append rest (r ∷ []) in
              let k = ap length pushes_again in let b = length-append more (again ∷ []) in omega arith);
        }

    pub rows_with_child : IsAscending rows → (c : Child) (handle : List ℕ) → r ≡ row_of_child c place → again ≡ record row { handle = handle }
        → rows_of (context new) now ≡ taken_out (row_of (context tree) row) (rows_of (context tree) rows) ++ child_of (row_of (context tree) row) c n input ∷ renamed (row_of (context tree) row) handle ∷ []
    rows_with_child up c handle is_row is_again =
        let gone = taken_out (row_of (context tree) row) (rows_of (context tree) rows) in
        let stays : rows_of (context new) rest ≡ rows_of (context tree) rest = same_rows (context tree) (context new) rest (λ other le.
        begins_beside.others other (free_other (context tree) rest row.place place other but (is_free tree place free) le)) in
        let parent : row_of (context new) again ≡ renamed (row_of (context tree) row) handle =
        ap (row_of (context new)) is_again ∙ ap (row_with (record row { handle = handle })) (begins_beside.others row.place (apart_from_free tree row.place place here free)) in
        pushed (context new) more now again pushes_again
        ∙ (ap (λ rs. rs ++ row_of (context new) again ∷ []) (pushed (context new) rest more r pushes)
        ∙ (append_assoc (rows_of (context new) rest) (row_of (context new) r ∷ []) (row_of (context new) again ∷ [])
        ∙ (ap (λ rs. rs ++ row_of (context new) r ∷ row_of (context new) again ∷ []) (stays ∙ out up)
        ∙ (ap (λ x. gone ++ x ∷ row_of (context new) again ∷ []) (child_seen new c place n input new_cdis r is_row begins_beside.here)
        ∙ ap (λ x. gone ++ child_of (row_of (context tree) row) c n input ∷ x ∷ []) parent))))

-- ## The requirements of the arena

module _ (seed : List ℕ) (tree : Places) (rows : List Row) (before : Kept) (same : record { seed = seed; rows = rows_of (context tree) rows } ≡ before) (at : ℕ) (row : Row) (is : slice_get rows at ≡ Some row) (own : IsOwned (context tree) rows) where
  pub depth_here : Of before.rows at (λ r. model.depth r < depth_limit) → depth tree row.place < depth_limit
  depth_here h =
      let seen = subst (λ (k : Kept). slice_get k.rows at ≡ Some (row_of (context tree) row)) same (row_seen (context tree) rows at row is) in
      let less = h (row_of (context tree) row) seen in
      let l = length-map (lineage_of (context tree row.place)) birth_of in
      let e : length (lineage_of (context tree row.place)) ≡ depth tree row.place = ap (λ o. length (lineage_of o)) (same_node tree row.place (row_is_live (context tree) rows at row own is)) in
      omega arith

  pub unborn_here : (n : ℕ) → IsTree tree → IsUnborn before.rows n → unborn tree n
  unborn_here n shape h = unborn_place tree rows n shape own (subst (λ (k : Kept). IsUnborn k.rows n) (sym same) h)

  pub within_here : IsTree tree → row.place < place_limit
  within_here shape =
      let lt = is_place tree row.place (is_used_place tree row.place (row_is_live (context tree) rows at row own is)) in
      let p = shape.places in omega arith

  pub cdis_here : ((place : ℕ) → IsFolded seed (context tree place)) → (now : Cdis) → now ≡ cdis tree row.place → Of before.rows at (AreCdis before.seed now)
  cdis_here folded now is_now =
      subst (λ (k : Kept). Of k.rows at (AreCdis k.seed now)) same
      (of_row (context tree) rows at row (AreCdis seed now) is
      (subst (AreFolded seed (births_of (context tree row.place))) (sym is_now)
      (folded_place seed tree row.place (row_is_live (context tree) rows at row own is) (folded row.place))))
