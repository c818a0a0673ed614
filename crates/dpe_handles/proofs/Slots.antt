-- Rows that stay in their slots, and the list of the slots' numbers.
use Rattle.std.proofs.Common.{◌≡◌, ◌≢◌, ℕ, ◌+◌, ◌<◌, ◌≤◌, List, [], ◌∷◌, ◌++◌, AllPairs, All, length, get_or, set, take, drop, map, remove, append_assoc, refl, ap, ap₂, sym, subst, ◌∙◌, zero, suc, length-append, replicate, slice_get, Some, arith}
use Rattle.std.specs.List.{range_with_len}
use Rattle.std.proofs.lemmas.List.{map-append, take-map, drop-map, map_more, get_or-map, get_or-take, get_or_default, get_or-set_same, get_or-set_other, length-map, map-set, length-take-le, length-set, take-append-drop, take-append-le, take_all, same_lists}
use Rattle.std.proofs.lemmas.List.Edits.{length-remove, get_or-remove_below, get_or-remove_above, remove-append_left}
use Rattle.std.proofs.lemmas.List.Elements.{All-push}
use Rattle.std.proofs.lemmas.List.FromFn.{get_or-range_with_len, length-range_with_len}
use Rattle.std.proofs.lemmas.List.Quantifiers.{all_pairs_remove, all_pairs_push}
use Rattle.std.proofs.lemmas.Option.{slice_get_read, get_or_from_slice_get}
use native.Mathlib.Decide.{dec_lt}
use Rattle.dpe_handles.specs.declared.row.Row.{Row}
use Rattle.dpe_handles.specs.Rows.{serial, IsAscending, IsTable, HasSerial, rows_in, serials_of, no_row, row_limit}

-- what holds of each element holds without the one at this place
pub all_remove : {X : Type 0} (P : X → Type 0) (xs : List X) (at : ℕ) → at < length xs → All P xs → All P (remove xs at)
all_remove P xs at lt all k d within =
    let long = length-remove xs at lt in
    elim (dec_lt k at) [
      | yes below ↦ subst P (sym (get_or-remove_below xs at d k below lt)) (all k d (omega arith))
      | no above ↦ subst P (sym (get_or-remove_above xs at d k (omega arith) lt)) (all (k + 1) d (omega arith))
    ]

-- the element at a place, whatever stands in for one past the end
there : {X : Type 0} (xs : List X) (at : ℕ) (x d : X) → at < length xs → x ≡ get_or xs at x → get_or xs at d ≡ x
there xs at x d lt is = get_or_from_slice_get xs at x d (slice_get_read xs _ at x refl lt is)

pub rows_count : (rows : List Row) (order : List ℕ) (live : ℕ) → live ≤ length order → length (rows_in rows (take live order)) ≡ live
rows_count rows order live le = length-map (take live order) _ ∙ length-take-le live order le

module _ (rows : List Row) (order : List ℕ) (live : ℕ) (t : IsTable rows order live) where
  pub slot_within : (at slot : ℕ) → at < row_limit → slot ≡ get_or order at slot → slot < length rows
  slot_within at slot lt is = let numbers = t.numbers in let slots = t.slots in let below = t.below at slot (omega arith) in omega arith

  module _ (now : List Row) (view : rows_in rows (take live order) ≡ now) where
    pub live_count : live ≡ length now
    live_count = let few = t.few in let numbers = t.numbers in sym (rows_count rows order live (omega arith)) ∙ ap length view

    module _ (at slot : ℕ) (lt : at < length now) (is : slot ≡ get_or order at slot) where
      pub place_within : slot < length rows
      place_within = let few = t.few in let same = live_count in slot_within at slot (omega arith) is

      pub row_there : (row : Row) → row ≡ get_or rows slot row → slice_get now at ≡ Some row
      row_there row here =
          let f : ℕ → Row = λ s. get_or rows s no_row in
          let same = live_count in
          let numbers = t.numbers in
          let few = t.few in
          let long = length-take-le live order (omega arith) in
          let found : get_or (rows_in rows (take live order)) at row ≡ row =
          get_or-map f (take live order) at slot row (omega arith) ∙ ap f (get_or-take live order at slot (omega arith) ∙ sym is)
          ∙ there rows slot row no_row place_within here
          in
          slice_get_read now _ at row refl lt (sym (ap (λ rs. get_or rs at row) (sym view) ∙ found))

      -- its serial, read from the list of the slots' serials
      pub serial_there : (serials : List ℕ) (n : ℕ) → serials ≡ serials_of rows → n ≡ get_or serials slot n → HasSerial now at n
      serial_there serials n all here =
          let g : Row → ℕ = λ r. serial r.handle in
          let row = get_or rows slot no_row in
          (row, row_there row (get_or_default rows slot no_row row place_within), sym (here ∙ ap (λ ns. get_or ns slot n) all ∙ get_or-map g rows slot no_row n place_within))

-- a serial and its row are written into a slot
pub serials_issued : (rows : List Row) (serials : List ℕ) (slot number : ℕ) (row : Row) → number ≡ serial row.handle → serials ≡ serials_of rows → set serials slot number ≡ serials_of (set rows slot row)
serials_issued rows serials slot number row is all =
    let g : Row → ℕ = λ r. serial r.handle in
    ap₂ (λ ns n. set ns slot n) all is ∙ sym (map-set g rows slot row)

-- the serials of rows of nothing
none_serial : serial (replicate 16 0) ≡ 0
unfolding serial
none_serial = refl

pub serials_made : (count : ℕ) → replicate count 0 ≡ serials_of (replicate count no_row)
serials_made zero = refl
serials_made (suc count) = ap₂ (λ n ns. n ∷ ns) (sym none_serial) (serials_made count)

range_last : (a n j : ℕ) → a + n ≡ j → range_with_len a (suc n) ≡ range_with_len a n ++ j ∷ []
range_last a zero j e = let i : a ≡ j = omega arith in ap (λ k. k ∷ []) i
range_last a (suc n) j e = ap (λ ks. a ∷ ks) (range_last (a + 1) n j (omega arith))

pub numbers_more : (n : ℕ) → range_with_len 0 (n + 1) ≡ range_with_len 0 n ++ n ∷ []
numbers_more n = let on : n + 1 ≡ suc n = omega arith in ap (range_with_len 0) on ∙ range_last 0 n n (omega arith)

-- no two of the numbers are the same
numbers_differ : (n : ℕ) → AllPairs (λ (a b : ℕ). a ≢ b) (range_with_len 0 n)
numbers_differ n i j d lt within same =
    let many = length-range_with_len 0 n in
    let a = get_or-range_with_len 0 n i d (omega arith) in
    let b = get_or-range_with_len 0 n j d (omega arith) in
    omega arith

numbers_below : (n : ℕ) → All (λ (a : ℕ). a < n) (range_with_len 0 n)
numbers_below n k d within = let many = length-range_with_len 0 n in let a = get_or-range_with_len 0 n k d (omega arith) in omega arith

-- a number that is taken out and put behind
below_moved : (order : List ℕ) (at slot most : ℕ) → at < length order → slot ≡ get_or order at slot → All (λ (a : ℕ). a < most) order → All (λ (a : ℕ). a < most) (remove order at ++ slot ∷ [])
below_moved order at slot most lt is below =
    All-push (λ (a : ℕ). a < most) (remove order at) slot (all_remove (λ (a : ℕ). a < most) order at lt below) (let b = below at slot lt in omega arith)

differ_moved : (order : List ℕ) (at slot : ℕ) → at < length order → slot ≡ get_or order at slot → AllPairs (λ (a b : ℕ). a ≢ b) order → AllPairs (λ (a b : ℕ). a ≢ b) (remove order at ++ slot ∷ [])
differ_moved order at slot lt is differ =
    all_pairs_push (λ (a b : ℕ). a ≢ b) (remove order at) slot (all_pairs_remove (λ (a b : ℕ). a ≢ b) order at lt differ) (λ k d within same.
    let long = length-remove order at lt in
    let this = there order at slot d lt is in
    elim (dec_lt k at) [
      | yes below ↦ differ k at d below lt (sym (get_or-remove_below order at d k below lt) ∙ same ∙ sym this)
      | no above ↦ differ at (k + 1) d (omega arith) (omega arith) (this ∙ sym same ∙ get_or-remove_above order at d k (omega arith) lt)
    ])

-- the live slots are as they were, but for the one at this place
live_moved : (order : List ℕ) (live fewer at slot : ℕ) → fewer + 1 ≡ live → live ≤ length order → at < live → take fewer (remove order at ++ slot ∷ []) ≡ remove (take live order) at
live_moved order live fewer at slot one le lt =
    let front = take live order in
    let back = drop live order in
    let few : length front ≡ live = length-take-le live order le in
    let less : length (remove front at) + 1 ≡ length front = length-remove front at (omega arith) in
    let parts : remove order at ≡ remove front at ++ back =
    ap (λ o. remove o at) (sym (take-append-drop live order)) ∙ remove-append_left front back at (omega arith)
    in
    ap (λ o. take fewer (o ++ slot ∷ [])) parts
    ∙ ap (take fewer) (append_assoc (remove front at) back (slot ∷ []))
    ∙ take-append-le fewer (remove front at) (back ++ slot ∷ []) (omega arith)
    ∙ take_all fewer (remove front at) (omega arith)

rows_without : (rows : List Row) (slots : List ℕ) (at : ℕ) → rows_in rows (remove slots at) ≡ remove (rows_in rows slots) at
rows_without rows slots at =
    let f : ℕ → Row = λ s. get_or rows s no_row in
    map-append f (take at slots) (drop (suc at) slots) ∙ ap₂ (λ p q. p ++ q) (sym (take-map f at slots)) (sym (drop-map f (suc at) slots))

-- the rows without the one at this place
pub rows_spent : (rows : List Row) (order : List ℕ) (live fewer at slot : ℕ) → fewer + 1 ≡ live → live ≤ length order → at < live → rows_in rows (take fewer (remove order at ++ slot ∷ [])) ≡ remove (rows_in rows (take live order)) at
rows_spent rows order live fewer at slot one le lt = ap (rows_in rows) (live_moved order live fewer at slot one le lt) ∙ rows_without rows (take live order) at

-- a row written into a slot that isn't among these
rows_kept : (rows : List Row) (slots : List ℕ) (slot : ℕ) (row : Row) → ((k : ℕ) → k < length slots → get_or slots k 0 ≢ slot) → rows_in (set rows slot row) slots ≡ rows_in rows slots
rows_kept rows slots slot row apart =
    let f : ℕ → Row = λ s. get_or rows s no_row in
    let g : ℕ → Row = λ s. get_or (set rows slot row) s no_row in
    same_lists (map g slots) (map f slots) (length-map slots g ∙ sym (length-map slots f)) (λ k d lt.
    let many = length-map slots g in
    let within : k < length slots = omega arith in
    get_or-map g slots k 0 d within ∙ get_or-set_other rows slot (get_or slots k 0) row no_row (apart k within) ∙ sym (get_or-map f slots k 0 d within))

-- the rows with one more behind them
pub rows_issued : (rows : List Row) (order : List ℕ) (live slot : ℕ) (row : Row) → live < length order → slot ≡ get_or order live slot → slot < length rows → AllPairs (λ (a b : ℕ). a ≢ b) order → rows_in (set rows slot row) (take (live + 1) order) ≡ rows_in rows (take live order) ++ row ∷ []
rows_issued rows order live slot row lt is within differ =
    let g : ℕ → Row = λ s. get_or (set rows slot row) s no_row in
    let few = length-take-le live order (omega arith) in
    let last : g (get_or order live slot) ≡ row = ap g (sym is) ∙ get_or-set_same rows slot row no_row within in
    let others : rows_in (set rows slot row) (take live order) ≡ rows_in rows (take live order) =
    rows_kept rows (take live order) slot row (λ k below same.
    differ k live 0 (omega arith) lt (sym (get_or-take live order k 0 (omega arith)) ∙ same ∙ sym (there order live slot 0 lt is)))
    in
    map_more g order live slot lt ∙ ap₂ (λ p q. p ++ q ∷ []) others last

pub table_made : (rows : List Row) (order : List ℕ) → length rows ≡ row_limit → order ≡ range_with_len 0 row_limit → IsTable rows order 0
table_made rows order slots all = record {
  ascending = λ i j d lt within. absurd (omega arith);
  few = omega arith;
  slots = slots;
  numbers = ap length all ∙ length-range_with_len 0 row_limit;
  below = subst (All (λ (a : ℕ). a < row_limit)) (sym all) (numbers_below row_limit);
  differ = subst (λ (ns : List ℕ). AllPairs (λ (a b : ℕ). a ≢ b) ns) (sym all) (numbers_differ row_limit);
}

module _ (rows : List Row) (order : List ℕ) (live : ℕ) (t : IsTable rows order live) where
  pub table_spent : (new : List ℕ) (fewer at slot : ℕ) → fewer + 1 ≡ live → at < live → slot ≡ get_or order at slot → new ≡ remove order at ++ slot ∷ [] → IsTable rows new fewer
  table_spent new fewer at slot one lt is moved =
      let few = t.few in
      let numbers = t.numbers in
      let many = rows_count rows order live (omega arith) in
      let long = length-remove order at (omega arith) in
      let longer = length-append (remove order at) (slot ∷ []) in
      let up : IsAscending (remove (rows_in rows (take live order)) at) = all_pairs_remove (λ a b. serial a.handle < serial b.handle) _ at (omega arith) t.ascending in
      let same = ap length moved in
      record {
        ascending = subst IsAscending (sym (ap (λ o. rows_in rows (take fewer o)) moved ∙ rows_spent rows order live fewer at slot one (omega arith) lt)) up;
        few = omega arith;
        slots = t.slots;
        numbers = omega arith;
        below = subst (All (λ (a : ℕ). a < row_limit)) (sym moved) (below_moved order at slot row_limit (omega arith) is t.below);
        differ = subst (λ (ns : List ℕ). AllPairs (λ (a b : ℕ). a ≢ b) ns) (sym moved) (differ_moved order at slot (omega arith) is t.differ);
      }

  pub table_issued : (slot : ℕ) (row : Row) → live < row_limit → slot ≡ get_or order live slot → slot < length rows → All (λ (r : Row). serial r.handle < serial row.handle) (rows_in rows (take live order)) → IsTable (set rows slot row) order (live + 1)
  table_issued slot row room is within last =
      let numbers = t.numbers in
      let slots = t.slots in
      let up : IsAscending (rows_in rows (take live order) ++ row ∷ []) = all_pairs_push (λ a b. serial a.handle < serial b.handle) _ row t.ascending last in
      record {
        ascending = subst IsAscending (sym (rows_issued rows order live slot row (omega arith) is within t.differ)) up;
        few = omega arith;
        slots = length-set rows slot row ∙ slots;
        numbers = numbers;
        below = t.below;
        differ = t.differ;
      }
