-- What the slow evaluator's functions come to.
use Rattle.std.proofs.Common.{◌≡◌, ℕ, ◌+◌, ◌-◌, ◌^◌, ◌<◌, ◌≤◌, suc, List, [], ◌∷◌, ◌++◌, refl, ap, sym, ◌∙◌, take, drop, get_or, length, zero, subst, IfSome, IfNone, IfOk, OnErr, slice_get, Result, Ok, Err, Bool, true, false, cond, Option, Some, None, arith}
use Rattle.std.specs.List.{AllByRecursion}
use Rattle.std.specs.declared.alloc.AllocError.{AllocError}
use Rattle.std.proofs.lemmas.List.{take_more, take-append-drop}
use Rattle.std.proofs.Math.Seq.{drop-cons}
use Rattle.dpe_messages.specs.Request.{Request}
use Rattle.dpe_messages.specs.Class as classes
use Rattle.dpe_messages.specs.Replies as replies
use Rattle.dpe_model.specs.declared.lineage.Birth.{Birth}
use Rattle.dpe_model.specs.declared.rows.PlainRow.{PlainRow}
use Rattle.dpe_model.specs.declared.state.PlainState.{PlainState}
use Rattle.dpe_model.specs.Plain.{row_of, rows_of}
use Rattle.dpe_model.specs.PlainState.{state_of}
use Rattle.dpe_model.specs.State.{State, Row, Valid, last_mode}
use Rattle.dpe_model.specs.Verdict.{first_code, verdict, tests, used, makes}
use Rattle.dpe_model.specs.Step.{Outcome, judged, obeyed, done, step, stepped}
use Rattle.dpe_model.proofs.Accepted.{passed, verdict_coded}
use Rattle.dpe_model.proofs.Issues.{fits}
use Rattle.dpe_model.proofs.ValidStep.{stays_valid}

-- the mode of a lineage is that of its last birth
pub last_mode-last : (m : ℕ) (xs : List Birth) (d : Birth) → 0 < length xs → last_mode m xs ≡ (get_or xs (length xs - 1) d).input.mode
last_mode-last m [] d h = absurd (omega arith)
last_mode-last m (x ∷ []) d h = refl
last_mode-last m (x ∷ y ∷ ys) d h =
    let here : length (x ∷ y ∷ ys) - 1 ≡ suc (length ys) = omega arith in
    let there : length (y ∷ ys) - 1 ≡ length ys = omega arith in
    let rec = last_mode-last x.input.mode (y ∷ ys) d (omega arith) in
    rec ∙ (ap (λ i. (get_or (y ∷ ys) i d).input.mode) there ∙ sym (ap (λ i. (get_or (x ∷ y ∷ ys) i d).input.mode) here))

-- ## The first test that holds

first_past : (x : Bool × ℕ) (xs ys : List (Bool × ℕ)) (b : Bool) → (first_code xs ≡ None → first_code (xs ++ ys) ≡ first_code ys) → cond b (Some x.1) (first_code xs) ≡ None → cond b (Some x.1) (first_code (xs ++ ys)) ≡ first_code ys
first_past x xs ys true rec h = cc
first_past x xs ys false rec h = rec h

first_code-append : (xs ys : List (Bool × ℕ)) → first_code xs ≡ None → first_code (xs ++ ys) ≡ first_code ys
first_code-append [] ys h = refl
first_code-append (x ∷ xs) ys h = first_past x xs ys x.0 (first_code-append xs ys) h

pub first_more : (xs : List (Bool × ℕ)) (i : ℕ) (d : Bool × ℕ) → i < length xs → first_code (take i xs) ≡ None → (get_or xs i d).0 ≡ false → first_code (take (i + 1) xs) ≡ None
first_more xs i d l h t =
    ap first_code (take_more xs i d l) ∙ (first_code-append (take i xs) (get_or xs i d ∷ []) h ∙ ap (λ b. cond b (Some (get_or xs i d).1) None) t)

pub first_here : (xs : List (Bool × ℕ)) (i : ℕ) (d : Bool × ℕ) → i < length xs → first_code (take i xs) ≡ None → (get_or xs i d).0 ≡ true → Some (get_or xs i d).1 ≡ first_code xs
first_here xs i d l h t =
    let split : xs ≡ take i xs ++ get_or xs i d ∷ drop (suc i) xs = sym (take-append-drop i xs) ∙ ap (λ r. take i xs ++ r) (drop-cons xs i d l) in
    sym (ap first_code split ∙ (first_code-append (take i xs) (get_or xs i d ∷ drop (suc i) xs) h
    ∙ ap (λ b. cond b (Some (get_or xs i d).1) (first_code (drop (suc i) xs))) t))

-- ## The step by its parts

pub serials_left : (seed : List ℕ) (S : State) (locality : ℕ) (request : Request) → verdict seed S locality request ≡ None → S.next + makes request ≤ 2 ^ 64 - 1
serials_left seed S locality request h = fits S.next (makes request) (passed seed S locality request (used S locality request) h).serials

pub obeyed-refused : (seed : List ℕ) (S : State) (locality : ℕ) (random : List ℕ) (request : Request) (code : ℕ) → verdict seed S locality request ≡ Some code →
    obeyed seed S locality random request ≡ record { state = S; reply = replies.refused code }
obeyed-refused seed S locality random request code h = ap (judged seed S locality random request) h

pub obeyed-done : (seed : List ℕ) (S : State) (locality : ℕ) (random : List ℕ) (request : Request) → verdict seed S locality request ≡ None →
    obeyed seed S locality random request ≡ done seed S locality random request (used S locality request)
obeyed-done seed S locality random request h = ap (judged seed S locality random request) h

pub step-accepted : (seed : List ℕ) (S : State) (locality : ℕ) (random payload : List ℕ) (request : Request) → classes.class payload ≡ classes.accepted request →
    step seed S locality random payload ≡ obeyed seed S locality random request
step-accepted seed S locality random payload request h = ap (stepped seed S locality random) h

pub step-refused : (seed : List ℕ) (S : State) (locality : ℕ) (random payload : List ℕ) (code : ℕ) → classes.class payload ≡ classes.refused code →
    step seed S locality random payload ≡ record { state = S; reply = replies.refused code }
step-refused seed S locality random payload code h = ap (stepped seed S locality random) h

pub mode_at : (xs ys : List Birth) (b : Birth) → ys ≡ xs → 0 < length ys → b ≡ get_or ys (length ys - 1) b → b.input.mode ≡ last_mode 0 xs
mode_at xs ys b same l is = ap (λ (x : Birth). x.input.mode) is ∙ (sym (last_mode-last 0 ys b l) ∙ ap (last_mode 0) same)

-- ## What a verdict says

pub coded : (v : Option ℕ) (seed : List ℕ) (S : State) (locality : ℕ) (request : Request) → v ≡ verdict seed S locality request → IfSome v replies.IsRefusalCode
coded None seed S locality request e = tt
coded (Some code) seed S locality request e = verdict_coded seed S locality request code (sym e)

pub room_for_serials : (v : Option ℕ) (seed : List ℕ) (S : State) (locality : ℕ) (request : Request) → v ≡ verdict seed S locality request → IfNone v (S.next + makes request ≤ 2 ^ 64 - 1)
room_for_serials None seed S locality request e = serials_left seed S locality request (sym e)
room_for_serials (Some code) seed S locality request e = tt

pub verdict_by : (seed : List ℕ) (S : State) (locality : ℕ) (request : Request) (v : Option ℕ) (ts : List (Bool × ℕ)) (row : Option Row) → v ≡ first_code ts → ts ≡ tests seed S locality request row → row ≡ used S locality request →
    v ≡ verdict seed S locality request
verdict_by seed S locality request v ts row first is there = first ∙ (ap first_code is ∙ ap (λ r. first_code (tests seed S locality request r)) there)

-- ## The rows at a place

pub row_at_place : (P : Row → Type 0) (xs : List PlainRow) (i : ℕ) (x : PlainRow) → i < length xs → x ≡ get_or xs i x → AllByRecursion P (rows_of xs) → P (row_of x)
row_at_place P [] i x l is h = absurd (omega arith)
row_at_place P (y ∷ xs) zero x l is h = subst (λ (r : PlainRow). P (row_of r)) (sym is) h.0
row_at_place P (y ∷ xs) (suc i) x l is h = row_at_place P xs i x (omega arith) is h.1

pub slice_get-rows_of : (xs : List PlainRow) (i : ℕ) (x : PlainRow) → i < length xs → x ≡ get_or xs i x → slice_get (rows_of xs) i ≡ Some (row_of x)
slice_get-rows_of [] i x l is = absurd (omega arith)
slice_get-rows_of (y ∷ xs) zero x l is = ap (λ (r : PlainRow). Some (row_of r)) (sym is)
slice_get-rows_of (y ∷ xs) (suc i) x l is = slice_get-rows_of xs i x (omega arith) is

-- ## The state after a command

pub kept_valid : (seed : List ℕ) (old new : PlainState) (locality : ℕ) (random payload : List ℕ) (request : Request) (r : Result ℕ AllocError) → locality ≤ 7 → length random ≡ 32 →
    classes.class payload ≡ classes.accepted request → Valid (state_of old) → IfOk r (λ _. state_of new ≡ (obeyed seed (state_of old) locality random request).state) → OnErr r (new ≡ old) → Valid (state_of new)
kept_valid seed old new locality random payload request (Ok n) t n32 is v h u =
    subst Valid (ap (λ (o : Outcome). o.state) (step-accepted seed (state_of old) locality random payload request is) ∙ sym h) (stays_valid seed (state_of old) locality random payload t n32 v)
kept_valid seed old new locality random payload request (Err e) t n32 is v h u = subst (λ (s : PlainState). Valid (state_of s)) (sym u) v
