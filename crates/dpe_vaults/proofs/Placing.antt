-- What a search in a table finds, and what is changed there.
use Rattle.std.proofs.Common.{◌≡◌, ℕ, zero, suc, ◌+◌, ◌<◌, ◌≤◌, Bool, true, false, cond, List, [], ◌∷◌, ◌++◌, length, map, take, drop, get_or, set, Option, Some, None, Ordering, Less, Equal, Greater, refl, sym, ap, subst, ◌∙◌, append_assoc, append-nil, take-append-drop, arith}
use Rattle.std.specs.Prelude.{◌||◌, ◌==◌, is_some, nat_lt, insert, remove}
use Rattle.std.specs.List.{refill}
use Rattle.std.proofs.lemmas.Bool.Decides.{nat_tests}
use Rattle.std.specs.Ordering.{ordering_reverse}
use Rattle.std.proofs.lemmas.List.{map-append, length-map, length-append, length-take, take-map, drop_more, take_more, take_at, drop_at, set_at, map-set, get_or_at, length-set, drop_all}
use Rattle.dpe_vaults.specs.declared.table.Row.{Row}
use Rattle.dpe_vaults.specs.Named.{Named, named, name_order, name_limit, found, without, placed, has_place, AreOrdered}
use Rattle.dpe_vaults.specs.Kept.{names_of}
use Rattle.dpe_vaults.specs.Tables.{row_of, rows_of, AllBefore, AllAfter, StandsAt, BelongsAt}
use Rattle.dpe_vaults.proofs.Names.{found_there, found_absent, without_there, without_absent, placed_there, placed_absent, behind_after, from_after, ordered_behind, before_same, before_less}

-- ---- the search

-- the rows up to a place, the row there, and those behind
split_at : (rows : List Row) (i : ℕ) (d : Row) → i < length rows → rows_of rows ≡ rows_of (take i rows) ++ row_of (get_or rows i d) ∷ rows_of (drop (i + 1) rows)
split_at rows i d lt =
    ap rows_of (sym (take-append-drop i rows) ∙ ap (λ (more : List Row). take i rows ++ more) (drop_more rows i d lt))
    ∙ map-append row_of (take i rows) (get_or rows i d ∷ drop (i + 1) rows)

front_length : (rows : List Row) (i : ℕ) → i ≤ length rows → length (rows_of (take i rows)) ≡ i
front_length rows i le = length-map (take i rows) row_of ∙ omega (arith, length-take i rows)

module _ (rows : List Row) (name : List ℕ) (i : ℕ) (d : Row) (lt : i < length rows) (ordered : AreOrdered (rows_of rows)) where
  ordered_parts : AreOrdered (rows_of (take i rows) ++ row_of (get_or rows i d) ∷ rows_of (drop (i + 1) rows))
  ordered_parts = subst (λ (rs : List (Named ℕ)). AreOrdered rs) (split_at rows i d lt) ordered

  ordered_there : AreOrdered (row_of (get_or rows i d) ∷ rows_of (drop (i + 1) rows))
  ordered_there = ordered_behind (rows_of (take i rows)) (row_of (get_or rows i d) ∷ rows_of (drop (i + 1) rows)) ordered_parts

  pub seek_less : name_order (get_or rows i d).name name ≡ Less → AllBefore (rows_of (take (i + 1) rows)) name
  seek_less less =
      let is : rows_of (take (i + 1) rows) ≡ rows_of (take i rows) ++ row_of (get_or rows i d) ∷ [] =
      ap rows_of (take_more rows i d lt) ∙ map-append row_of (take i rows) (get_or rows i d ∷ []) in
      subst (λ (rs : List (Named ℕ)). AllBefore rs name) (sym is)
      (before_less (rows_of (take i rows)) (row_of (get_or rows i d)) (rows_of (drop (i + 1) rows)) name ordered_parts less)

  pub seek_greater : name_order (get_or rows i d).name name ≡ Greater → AllAfter (rows_of (drop i rows)) name
  seek_greater greater =
      subst (λ (rs : List (Named ℕ)). AllAfter rs name) (sym (ap rows_of (drop_more rows i d lt)))
      (from_after (row_of (get_or rows i d)) (rows_of (drop (i + 1) rows)) name ordered_there greater)

  pub seek_found : (get_or rows i d).name ≡ name → StandsAt (rows_of rows) name i
  seek_found same = record {
    before = rows_of (take i rows);
    row = row_of (get_or rows i d);
    behind = rows_of (drop (i + 1) rows);
    rows_are = split_at rows i d lt;
    place = front_length rows i (omega arith);
    all_before = before_same (rows_of (take i rows)) (row_of (get_or rows i d)) (rows_of (drop (i + 1) rows)) name ordered_parts same;
    same = same;
    all_after = behind_after (row_of (get_or rows i d)) (rows_of (drop (i + 1) rows)) name ordered_there same;
  }

pub seek_none : (rows : List Row) (name : List ℕ) (i high : ℕ) → i ≤ length rows → high ≡ i → AllBefore (rows_of (take i rows)) name
    → AllAfter (rows_of (drop high rows)) name → BelongsAt (rows_of rows) name i
seek_none rows name i high le same all rest = record {
  before = rows_of (take i rows);
  behind = rows_of (drop i rows);
  rows_are = ap rows_of (sym (take-append-drop i rows)) ∙ map-append row_of (take i rows) (drop i rows);
  place = front_length rows i le;
  all_before = all;
  all_after = subst (λ (n : ℕ). AllAfter (rows_of (drop n rows)) name) same rest;
}

-- nothing comes after the last row
pub after_end : (rows : List Row) (name : List ℕ) (n : ℕ) → n ≡ length rows → AllAfter (rows_of (drop n rows)) name
after_end rows name n is =
    subst (λ (rs : List Row). AllAfter (rows_of rs) name) (sym (drop_all n rows (omega (arith, is)))) tt

-- ---- edits at a place

removed_at : (before : List (Named ℕ)) (row : Named ℕ) (behind : List (Named ℕ)) (at : ℕ) → length before ≡ at → remove (before ++ row ∷ behind) at ≡ before ++ behind
removed_at before row behind at long =
    ap (λ (t : List (Named ℕ)). t ++ drop (suc at) (before ++ row ∷ behind)) (take_at before (row ∷ behind) at long)
    ∙ ap (λ (t : List (Named ℕ)). before ++ t)
    (ap (drop (suc at)) (sym (append_assoc before (row ∷ []) behind))
    ∙ drop_at (before ++ row ∷ []) behind (suc at) (omega (arith, long, length-append before (row ∷ []))))

inserted_at : (before behind : List (Named ℕ)) (row : Named ℕ) (at : ℕ) → length before ≡ at → insert (before ++ behind) at row ≡ before ++ row ∷ behind
inserted_at before behind row at long =
    ap (λ (t : List (Named ℕ)). t ++ row ∷ drop at (before ++ behind)) (take_at before behind at long)
    ∙ ap (λ (t : List (Named ℕ)). before ++ row ∷ t) (drop_at before behind at long)

rows_drop : (n : ℕ) (rows : List Row) → rows_of (drop n rows) ≡ drop n (rows_of rows)
rows_drop zero rows = refl
rows_drop (suc n) [] = refl
rows_drop (suc n) (r ∷ rows) = rows_drop n rows

pub rows_remove : (rows : List Row) (i : ℕ) → rows_of (remove rows i) ≡ remove (rows_of rows) i
rows_remove rows i =
    map-append row_of (take i rows) (drop (suc i) rows)
    ∙ ap (λ (t : List (Named ℕ)). t ++ rows_of (drop (suc i) rows)) (sym (take-map row_of i rows))
    ∙ ap (λ (t : List (Named ℕ)). take i (rows_of rows) ++ t) (rows_drop (suc i) rows)

pub rows_insert : (rows : List Row) (i : ℕ) (r : Row) → rows_of (insert rows i r) ≡ insert (rows_of rows) i (row_of r)
rows_insert rows i r =
    map-append row_of (take i rows) (r ∷ drop i rows)
    ∙ ap (λ (t : List (Named ℕ)). t ++ row_of r ∷ rows_of (drop i rows)) (sym (take-map row_of i rows))
    ∙ ap (λ (t : List (Named ℕ)). take i (rows_of rows) ++ row_of r ∷ t) (rows_drop i rows)

pub rows_set : (rows : List Row) (i : ℕ) (r : Row) → rows_of (set rows i r) ≡ set (rows_of rows) i (row_of r)
rows_set rows i r = map-set row_of rows i r

pub rows_get : (rows : List Row) (i : ℕ) (d : Row) → i < length rows → get_or (rows_of rows) i (row_of d) ≡ row_of (get_or rows i d)
rows_get [] i d lt = absurd (omega arith)
rows_get (r ∷ rows) zero d lt = refl
rows_get (r ∷ rows) (suc i) d lt = rows_get rows i d (omega arith)

names_append : (rows : List Row) (row : Row) → names_of (rows_of (rows ++ row ∷ [])) ≡ names_of (rows_of rows) ++ length row.name ∷ row.name
names_append [] row = append-nil (length row.name ∷ row.name)
names_append (r ∷ rows) row =
    ap (λ (t : List ℕ). (length r.name ∷ r.name) ++ t) (names_append rows row)
    ∙ sym (append_assoc (length r.name ∷ r.name) (names_of (rows_of rows)) (length row.name ∷ row.name))

-- ---- where a name stands

module _ (rows : List (Named ℕ)) (name : List ℕ) (at : ℕ) (s : StandsAt rows name at) where
  pub stands_found : found rows name ≡ Some s.row.value
  stands_found = ap (λ (rs : List (Named ℕ)). found rs name) s.rows_are ∙ found_there s.before s.behind s.row name s.all_before s.same s.all_after

  pub stands_within : at < length rows
  stands_within = omega (arith, ap length s.rows_are, length-append s.before (s.row ∷ s.behind), s.place)

  pub stands_row : (d : Named ℕ) → get_or rows at d ≡ s.row
  stands_row d = ap (λ (rs : List (Named ℕ)). get_or rs at d) s.rows_are ∙ get_or_at s.before s.row s.behind d at s.place

  pub stands_place : has_place rows name ≡ true
  stands_place = ap (λ (o : Option ℕ). is_some o || nat_lt (length rows) name_limit) stands_found

  pub stands_placed : (new : ℕ) → set rows at (named name new) ≡ cond (has_place rows name) (placed rows (named name new)) rows
  stands_placed new =
      ap (λ (rs : List (Named ℕ)). set rs at (named name new)) s.rows_are ∙ set_at s.before s.row s.behind (named name new) at s.place
      ∙ sym (ap (λ (rs : List (Named ℕ)). placed rs (named name new)) s.rows_are
      ∙ placed_there s.before s.behind s.row name s.all_before s.same s.all_after new)
      ∙ sym (ap (λ (t : Bool). cond t (placed rows (named name new)) rows) stands_place)

  pub stands_removed : remove rows at ≡ without rows name
  stands_removed =
      ap (λ (rs : List (Named ℕ)). remove rs at) s.rows_are
      ∙ removed_at s.before s.row s.behind at s.place
      ∙ sym (ap (λ (rs : List (Named ℕ)). without rs name) s.rows_are ∙ without_there s.before s.behind s.row name s.all_before s.same s.all_after)

-- ---- where a name belongs

module _ (rows : List (Named ℕ)) (name : List ℕ) (at : ℕ) (b : BelongsAt rows name at) where
  pub belongs_found : found rows name ≡ None
  belongs_found = ap (λ (rs : List (Named ℕ)). found rs name) b.rows_are ∙ found_absent b.before b.behind name b.all_before b.all_after

  pub belongs_within : at ≤ length rows
  belongs_within = omega (arith, ap length b.rows_are, length-append b.before b.behind, b.place)

  pub belongs_place : has_place rows name ≡ nat_lt (length rows) name_limit
  belongs_place = ap (λ (o : Option ℕ). is_some o || nat_lt (length rows) name_limit) belongs_found

  pub belongs_full : (new : ℕ) → nat_lt (length rows) name_limit ≡ false → rows ≡ cond (has_place rows name) (placed rows (named name new)) rows
  belongs_full new full = sym (ap (λ (t : Bool). cond t (placed rows (named name new)) rows) (belongs_place ∙ full))

  pub belongs_placed : (new : ℕ) → nat_lt (length rows) name_limit ≡ true → insert rows at (named name new) ≡ cond (has_place rows name) (placed rows (named name new)) rows
  belongs_placed new room =
      ap (λ (rs : List (Named ℕ)). insert rs at (named name new)) b.rows_are
      ∙ inserted_at b.before b.behind (named name new) at b.place
      ∙ sym (ap (λ (rs : List (Named ℕ)). placed rs (named name new)) b.rows_are ∙ placed_absent b.before b.behind name b.all_before b.all_after new)
      ∙ sym (ap (λ (t : Bool). cond t (placed rows (named name new)) rows) (belongs_place ∙ room))

  pub belongs_kept : rows ≡ without rows name
  belongs_kept = b.rows_are ∙ sym (ap (λ (rs : List (Named ℕ)). without rs name) b.rows_are ∙ without_absent b.before b.behind name b.all_before b.all_after)

-- ---- the names

pub names_more : (rows : List Row) (i : ℕ) (d : Row) → i < length rows
    → names_of (rows_of (take (i + 1) rows)) ≡ names_of (rows_of (take i rows)) ++ length (get_or rows i d).name ∷ (get_or rows i d).name
names_more rows i d lt =
    ap (λ (rs : List Row). names_of (rows_of rs)) (take_more rows i d lt) ∙ names_append (take i rows) (get_or rows i d)

-- ---- rows as they lie in memory, which are seen as this list

module _ (items : List Row) (view : List (Named ℕ)) (name : List ℕ) (at : ℕ) (is : rows_of items ≡ view) where
  same_length : length view ≡ length items
  same_length = sym (ap length is) ∙ length-map items row_of

  pub found_at : (d : Row) → StandsAt view name at → ◌≡◌ {A = Option ℕ} (Some (get_or items at d).at) (found view name)
  found_at d s =
      let lt : at < length items = omega (arith, stands_within view name at s, same_length) in
      let row : row_of (get_or items at d) ≡ s.row =
      sym (rows_get items at d lt) ∙ ap (λ (rs : List (Named ℕ)). get_or rs at (row_of d)) is ∙ stands_row view name at s (row_of d) in
      ap (λ (n : Named ℕ). Some n.value) row ∙ sym (stands_found view name at s)

  pub removed_rows : (new : List Row) → new ≡ remove items at → StandsAt view name at → rows_of new ≡ without view name
  removed_rows new becomes s =
      ap rows_of becomes ∙ rows_remove items at ∙ ap (λ (rs : List (Named ℕ)). remove rs at) is ∙ stands_removed view name at s

  pub set_rows : (new : List Row) (row : Row) (value : ℕ) → new ≡ set items at row → row_of row ≡ named name value → StandsAt view name at
      → rows_of new ≡ cond (has_place view name) (placed view (named name value)) view
  set_rows new row value becomes row_is s =
      ap rows_of becomes ∙ rows_set items at row ∙ ap (λ (rs : List (Named ℕ)). set rs at (row_of row)) is
      ∙ ap (λ (r : Named ℕ). set view at r) row_is ∙ stands_placed view name at s value

  pub inserted_rows : (new : List Row) (row : Row) (value : ℕ) → new ≡ insert items at row → row_of row ≡ named name value → BelongsAt view name at
      → nat_lt (length items) name_limit ≡ true → rows_of new ≡ cond (has_place view name) (placed view (named name value)) view
  inserted_rows new row value becomes row_is b room =
      ap rows_of becomes ∙ rows_insert items at row ∙ ap (λ (rs : List (Named ℕ)). insert rs at (row_of row)) is
      ∙ ap (λ (r : Named ℕ). insert view at r) row_is
      ∙ belongs_placed view name at b value (ap (λ (n : ℕ). nat_lt n name_limit) same_length ∙ room)

  pub full_rows : BelongsAt view name at → nat_lt (length items) name_limit ≡ false → has_place view name ≡ false
  full_rows b full = belongs_place view name at b ∙ ap (λ (n : ℕ). nat_lt n name_limit) same_length ∙ full

-- a list of so many names is full, and one of fewer isn't
pub is_full : (n : ℕ) → (n == 32) ≡ true → nat_lt n name_limit ≡ false
is_full n e = grind (arith, nat_tests)

pub is_open : (n : ℕ) → n ≤ 32 → (n == 32) ≡ false → nat_lt n name_limit ≡ true
is_open n most e = grind (arith, nat_tests)

-- what was written through a borrow of all elements
pub refilled : (items others : List Row) (at : ℕ) (row : Row) → others ≡ items → refill (length items) items (set others at row) ≡ set items at row
refilled items others at row is =
    take_at (set others at row) (drop (length (set others at row)) items) (length items) (length-set others at row ∙ ap length is)
    ∙ ap (λ (rs : List Row). set rs at row) is
