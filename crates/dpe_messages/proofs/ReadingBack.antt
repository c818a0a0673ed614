-- Reading what was written gives it back.
use Rattle.std.proofs.Common.{◌≡◌, ℕ, ◌^◌, ◌<◌, ◌≤◌, Bool, true, false, cond, eqb, List, [], ◌∷◌, ◌++◌, length, Option, Some, None, refl, sym, ap, subst, arith, length-append}
use Rattle.std.specs.List.{list_all}
use Rattle.std.proofs.lemmas.Bool.{eqb-true, ne_eqb}
use Rattle.dpe_cbor.specs.Item.{ArePairs, KeysRiseAfter, MayFollow, IsItem, pair_count}
use Rattle.dpe_messages.specs.FlatMap.{Value, FlatMap, item_of, pairs_of, value_at}
use Rattle.dpe_messages.specs.Reading.{outer_of, inner_of, number_of}
use Rattle.dpe_messages.specs.Message.{Row, pair_of, present, inner, message}
use Rattle.dpe_messages.proofs.Decoders.{outer_complete, inner_complete, pair_count-pairs_of}

-- ---- a table whose keys rise

abbrev pub RiseAfter : Option ℕ → List Row → Type 0
RiseAfter last [] = Unit {0}
RiseAfter last (row ∷ rows) = MayFollow last row.0 × RiseAfter (Some row.0) rows

abbrev pub IsFitRow : ℕ → Option Value → Type 0
IsFitRow k None = Unit {0}
IsFitRow k (Some v) = (k < 2 ^ 64) × IsItem (item_of v)

abbrev pub AreFit : List Row → Type 0
AreFit [] = Unit {0}
AreFit (row ∷ rows) = IsFitRow row.0 row.1 × AreFit rows

follows : (last : Option ℕ) (k j : ℕ) → MayFollow last k → k < j → MayFollow last j
follows None k j may lt = tt
follows (Some before) k j may lt = omega (arith, may, lt)

earlier : (last : Option ℕ) (k : ℕ) (m : FlatMap) → MayFollow last k → KeysRiseAfter (Some k) (pairs_of m) → KeysRiseAfter last (pairs_of m)
earlier last k [] may rise = tt
earlier last k (e ∷ m) may rise = (follows last k e.0 may rise.0, rise.1)

rise_row : (last : Option ℕ) (k : ℕ) (v : Option Value) (m : FlatMap) → MayFollow last k → KeysRiseAfter (Some k) (pairs_of m) → KeysRiseAfter last (pairs_of (pair_of (k, v) ++ m))
rise_row last k None m may rise = earlier last k m may rise
rise_row last k (Some v) m may rise = (may, rise)

keys_rise : (last : Option ℕ) (rows : List Row) → RiseAfter last rows → KeysRiseAfter last (pairs_of (present rows))
keys_rise last [] rise = tt
keys_rise last (row ∷ rows) rise = rise_row last row.0 row.1 (present rows) rise.0 (keys_rise (Some row.0) rows rise.1)

fit_row : (k : ℕ) (v : Option Value) (m : FlatMap) → IsFitRow k v → ArePairs (pairs_of m) → ArePairs (pairs_of (pair_of (k, v) ++ m))
fit_row k None m fit others = others
fit_row k (Some v) m fit others = (fit.0, fit.1, others)

pairs_are : (rows : List Row) → AreFit rows → ArePairs (pairs_of (present rows))
pairs_are [] fit = tt
pairs_are (row ∷ rows) fit = fit_row row.0 row.1 (present rows) fit.0 (pairs_are rows fit.1)

-- ---- the layers of a message

module _ (k : ℕ) (rows : List Row) (lt : k < 2 ^ 64) (count : length (present rows) < 2 ^ 64) (rise : RiseAfter None rows) (fit : AreFit rows) (short : length (inner k (present rows)) < 2 ^ 64) where
  abbrev m : FlatMap
  m = present rows

  pub outer_read : outer_of (message k m) ≡ Some (0, inner k m)
  unfolding message
  outer_read = outer_complete (message k m) 0 (inner k m) ((omega arith, (omega arith, (short, tt))), refl)

  pub inner_read : inner_of (inner k m) ≡ Some (k, m)
  unfolding inner
  inner_read =
      let counted : pair_count (pairs_of m) < 2 ^ 64 = subst (λ (n : ℕ). n < 2 ^ 64) (sym (pair_count-pairs_of m)) count in
      inner_complete (inner k m) k m ((omega arith, (lt, ((counted, pairs_are rows fit, keys_rise None rows rise), tt))), refl)

  pub number_read : number_of (message k m) ≡ Some k
  number_read = rw (outer_read, inner_read) refl

-- ---- the value at a key

abbrev pub look : ℕ → List Row → Option Value
look key [] = None
look key (row ∷ rows) = cond (eqb row.0 key) row.1 (look key rows)

absent_row : (key k : ℕ) (v : Option Value) (m : FlatMap) → key < k → value_at key m ≡ None → value_at key (pair_of (k, v) ++ m) ≡ None
absent_row key k None m lt others = others
absent_row key k (Some v) m lt others = let other = ne_eqb k key (λ e. absurd (omega (arith, e, lt))) in rw other others

absent : (key : ℕ) (last : Option ℕ) (rows : List Row) → ((k : ℕ) → MayFollow last k → key < k) → RiseAfter last rows → value_at key (present rows) ≡ None
absent key last [] above rise = refl
absent key last (row ∷ rows) above rise =
    absent_row key row.0 row.1 (present rows) (above row.0 rise.0) (absent key (Some row.0) rows (λ k lt. (let first = above row.0 rise.0 in omega (arith, first, lt))) rise.1)

look_row : (key k : ℕ) (v : Option Value) (m : FlatMap) (later : Option Value) → value_at key m ≡ later → (k ≡ key → value_at key m ≡ None) → value_at key (pair_of (k, v) ++ m) ≡ cond (eqb k key) v later
look_row key k (Some v) m later others none = ap (λ (o : Option Value). cond (eqb k key) (Some v) o) others
look_row key k None m later others none = go (eqb k key) refl where
  go : (t : Bool) → eqb k key ≡ t → value_at key m ≡ cond t None later
  go true e = none (eqb-true k key e)
  go false e = others

pub value_is : (key : ℕ) (last : Option ℕ) (rows : List Row) → RiseAfter last rows → value_at key (present rows) ≡ look key rows
value_is key last [] rise = refl
value_is key last (row ∷ rows) rise =
    look_row key row.0 row.1 (present rows) (look key rows) (value_is key (Some row.0) rows rise.1)
    (λ e. absent key (Some row.0) rows (λ k lt. omega (arith, e, lt)) rise.1)

-- ---- a test of each pair

abbrev pub RowIs : (ℕ × Value → Bool) → ℕ → Option Value → Type 0
RowIs test k None = Unit {0}
RowIs test k (Some v) = test (k, v) ≡ true

abbrev pub RowsAre : (ℕ × Value → Bool) → List Row → Type 0
RowsAre test [] = Unit {0}
RowsAre test (row ∷ rows) = RowIs test row.0 row.1 × RowsAre test rows

all_row : (test : ℕ × Value → Bool) (k : ℕ) (v : Option Value) (m : FlatMap) → RowIs test k v → list_all test m ≡ true → list_all test (pair_of (k, v) ++ m) ≡ true
all_row test k None m is others = others
all_row test k (Some v) m is others = rw (is, others) refl

pub all_are : (test : ℕ × Value → Bool) (rows : List Row) → RowsAre test rows → list_all test (present rows) ≡ true
all_are test [] is = refl
all_are test (row ∷ rows) is = all_row test row.0 row.1 (present rows) is.0 (all_are test rows is.1)

-- ---- how many pairs

few_row : (k : ℕ) (v : Option Value) → length (pair_of (k, v)) ≤ 1
few_row k None = omega arith
few_row k (Some v) = omega arith

pub few_pairs : (rows : List Row) → length (present rows) ≤ length rows
few_pairs [] = omega arith
few_pairs (row ∷ rows) = omega (arith, length-append (pair_of row) (present rows), few_row row.0 row.1, few_pairs rows)
