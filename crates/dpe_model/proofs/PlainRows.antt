-- Searches of the slow evaluator's rows, row by row.
use Rattle.std.proofs.Common.{◌≡◌, ℕ, ◌+◌, ◌<◌, List, [], ◌∷◌, ◌++◌, refl, ap, sym, ◌∙◌, find, take, drop, suc, get_or, length, Bool, true, false, ◌||◌, cond, Some, None}
use Rattle.std.specs.List.{list_any}
use Rattle.std.proofs.lemmas.List.{take_more, map-append, take-append-drop}
use Rattle.std.proofs.lemmas.List.Folds.{list_any-append}
use Rattle.std.proofs.Math.Seq.{drop-cons}
use Rattle.dpe_model.specs.declared.rows.PlainRow.{PlainRow}
use Rattle.dpe_model.specs.State.{Row}
use Rattle.dpe_model.specs.Plain.{row_of, rows_of}

-- the rows up to one, and then this one
rows_more : (xs : List PlainRow) (i : ℕ) (x : PlainRow) → i < length xs → x ≡ get_or xs i x → rows_of (take (i + 1) xs) ≡ rows_of (take i xs) ++ row_of x ∷ []
rows_more xs i x l is =
    ap rows_of (take_more xs i x l) ∙ (map-append row_of (take i xs) (get_or xs i x ∷ []) ∙ ap (λ y. rows_of (take i xs) ++ row_of y ∷ []) (sym is))

find_past : (p : Row → Bool) (x : Row) (xs ys : List Row) (b : Bool) → (find p xs ≡ None → find p (xs ++ ys) ≡ find p ys) → cond b (Some x) (find p xs) ≡ None → cond b (Some x) (find p (xs ++ ys)) ≡ find p ys
find_past p x xs ys true rec h = cc
find_past p x xs ys false rec h = rec h

find-append : (p : Row → Bool) (xs ys : List Row) → find p xs ≡ None → find p (xs ++ ys) ≡ find p ys
find-append p [] ys h = refl
find-append p (x ∷ xs) ys h = find_past p x xs ys (p x) (find-append p xs ys) h

pub none_more : (p : Row → Bool) (xs : List PlainRow) (i : ℕ) (x : PlainRow) → i < length xs → x ≡ get_or xs i x → find p (rows_of (take i xs)) ≡ None → p (row_of x) ≡ false → find p (rows_of (take (i + 1) xs)) ≡ None
none_more p xs i x l is h t = ap (find p) (rows_more xs i x l is) ∙ (find-append p (rows_of (take i xs)) (row_of x ∷ []) h ∙ ap (λ b. cond b (Some (row_of x)) None) t)

-- the first row that passes
pub found_here : (p : Row → Bool) (xs : List PlainRow) (i : ℕ) (x : PlainRow) → i < length xs → x ≡ get_or xs i x → find p (rows_of (take i xs)) ≡ None → p (row_of x) ≡ true → Some (row_of x) ≡ find p (rows_of xs)
found_here p xs i x l is h t =
    let split : rows_of xs ≡ rows_of (take i xs) ++ row_of x ∷ rows_of (drop (suc i) xs) =
    sym (ap rows_of (take-append-drop i xs)) ∙ (map-append row_of (take i xs) (drop i xs)
    ∙ (ap (λ d. rows_of (take i xs) ++ rows_of d) (drop-cons xs i x l) ∙ ap (λ y. rows_of (take i xs) ++ row_of y ∷ rows_of (drop (suc i) xs)) (sym is))) in
    sym (ap (find p) split ∙ (find-append p (rows_of (take i xs)) (row_of x ∷ rows_of (drop (suc i) xs)) h
    ∙ ap (λ b. cond b (Some (row_of x)) (find p (rows_of (drop (suc i) xs)))) t))

-- no row passes, also with one more
pub no_more : (p : Row → Bool) (xs : List PlainRow) (i : ℕ) (x : PlainRow) → i < length xs → x ≡ get_or xs i x → list_any p (rows_of (take i xs)) ≡ false → p (row_of x) ≡ false → list_any p (rows_of (take (i + 1) xs)) ≡ false
no_more p xs i x l is h t = ap (list_any p) (rows_more xs i x l is) ∙ (list_any-append p (rows_of (take i xs)) (row_of x ∷ []) ∙ (λ j. h j || (t j || false)))

-- some row passes
pub some_here : (p : Row → Bool) (xs : List PlainRow) (i : ℕ) (x : PlainRow) → i < length xs → x ≡ get_or xs i x → list_any p (rows_of (take i xs)) ≡ false → p (row_of x) ≡ true → true ≡ list_any p (rows_of xs)
some_here p xs i x l is h t =
    let split : rows_of xs ≡ rows_of (take i xs) ++ row_of x ∷ rows_of (drop (suc i) xs) =
    sym (ap rows_of (take-append-drop i xs)) ∙ (map-append row_of (take i xs) (drop i xs)
    ∙ (ap (λ d. rows_of (take i xs) ++ rows_of d) (drop-cons xs i x l) ∙ ap (λ y. rows_of (take i xs) ++ row_of y ∷ rows_of (drop (suc i) xs)) (sym is))) in
    sym (ap (list_any p) split ∙ (list_any-append p (rows_of (take i xs)) (row_of x ∷ rows_of (drop (suc i) xs)) ∙ (λ j. h j || (t j || list_any p (rows_of (drop (suc i) xs))))))
