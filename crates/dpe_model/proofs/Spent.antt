-- Spent handles: no row has one, and none will.
use Rattle.std.proofs.Common.{◌≡◌, ◌≢◌, ℕ, ◌+◌, ◌<◌, ◌≤◌, List, [], ◌∷◌, ◌++◌, refl, ap, sym, ◌∙◌, subst, inr, map, filter, find, Bool, true, false, cond, not, Option, Some, None, is_some, arith, option_and_then}
use Rattle.std.specs.List.{AllByRecursion}
use Rattle.std.specs.Bool.{Decides}
use Rattle.std.specs.Str.{bytes_eq}
use Rattle.std.specs.Option.{option_map}
use Rattle.std.proofs.lemmas.Slice.Eq.{bytes_eq-Decides}
use Rattle.dpe_messages.specs.Request.{Request, get_profile, initialize, derive, sign, seal, unseal, rotate, destroy}
use Rattle.dpe_messages.specs.Class as classes
use Rattle.dpe_messages.specs.Replies as replies
use Rattle.dpe_messages.specs.Replies.{reply_payload}
use Rattle.dpe_model.specs.State.{Row, State, serial, start}
use Rattle.dpe_model.specs.Verdict.{used, makes, named, uses_row, row_for, is_default_of, verdict, tests, first_code}
use Rattle.dpe_model.specs.Step.{Outcome, step, rows_left, rows_made, taken_out, judged, stepped}
use Rattle.dpe_model.specs.History.{Entry, LegalFrom, accepted, accepted_class, request_at, is_accepted, is_zero, reply_code, after, after_all, reply_to}
use Rattle.dpe_model.proofs.Messages.{code_read}
use Rattle.dpe_model.proofs.Accepted.{IsStep, refusing, obeying, each_step, passed, not_zero}
use Rattle.dpe_model.proofs.Issues.{issue, Spread, spread_made, fits}
use Rattle.dpe_model.proofs.Runs.{append_all, legal_head, legal_tail, legal_rest, after_append}

-- ## Lists

all_if : {X : Type 0} (P : X → Type 0) (x : X) (xs ys : List X) (b : Bool) → P x → AllByRecursion P ys → AllByRecursion P (cond b (x ∷ ys) ys)
all_if P x xs ys true h k = (h, k)
all_if P x xs ys false h k = k

pub filter_all : {X : Type 0} (P : X → Type 0) (p : X → Bool) (xs : List X) → AllByRecursion P xs → AllByRecursion P (filter p xs)
filter_all P p [] h = tt
filter_all P p (x ∷ xs) h = all_if P x xs (filter p xs) (p x) h.0 (filter_all P p xs h.1)

passes_if : {X : Type 0} (p : X → Bool) (x : X) (ys : List X) (b : Bool) → p x ≡ b → AllByRecursion (λ y. p y ≡ true) ys → AllByRecursion (λ y. p y ≡ true) (cond b (x ∷ ys) ys)
passes_if p x ys true e k = (e, k)
passes_if p x ys false e k = k

pub filter_passed : {X : Type 0} (p : X → Bool) (xs : List X) → AllByRecursion (λ y. p y ≡ true) (filter p xs)
filter_passed p [] = tt
filter_passed p (x ∷ xs) = passes_if p x (filter p xs) (p x) refl (filter_passed p xs)

pub weaker_all : {X : Type 0} (P Q : X → Type 0) → ((x : X) → P x → Q x) → (xs : List X) → AllByRecursion P xs → AllByRecursion Q xs
weaker_all P Q f [] h = tt
weaker_all P Q f (x ∷ xs) h = (f x h.0, weaker_all P Q f xs h.1)

find_none : {X : Type 0} (p : X → Bool) (xs : List X) → AllByRecursion (λ x. p x ≡ false) xs → find p xs ≡ None
find_none p [] h = refl
find_none p (x ∷ xs) h = ap (λ b. cond b (Some x) (find p xs)) h.0 ∙ find_none p xs h.1

found_if : {X : Type 0} (P : X → Type 0) (p : X → Bool) (x y : X) (found : Option X) (b : Bool) → p x ≡ b → P x → (found ≡ Some y → P y × (p y ≡ true)) → cond b (Some x) found ≡ Some y → P y × (p y ≡ true)
found_if P p x y found true e h k eq = let same : x ≡ y = cc in subst (λ z. P z × (p z ≡ true)) same (h, e)
found_if P p x y found false e h k eq = k eq

pub found_all : {X : Type 0} (P : X → Type 0) (p : X → Bool) (xs : List X) (y : X) → AllByRecursion P xs → find p xs ≡ Some y → P y × (p y ≡ true)
found_all P p [] y h e = cc
found_all P p (x ∷ xs) y h e = found_if P p x y (find p xs) (p x) refl h.0 (found_all P p xs y h.1) e

refutes : {P : Type 0} (b : Bool) → Decides b P → (P → ⊥) → b ≡ false
refutes true d n = absurd (n (d.0 refl))
refutes false d n = refl

pub other_bytes : (xs ys : List ℕ) → xs ≢ ys → bytes_eq xs ys ≡ false
other_bytes xs ys n = refutes (bytes_eq xs ys) (bytes_eq-Decides xs ys) n

-- ## The rows of a step

-- what holds of each row holds of each that a command leaves
pub left_all : (P : Row → Type 0) (request : Request) (row : Option Row) (rows : List Row) → AllByRecursion P rows → AllByRecursion P (rows_left request row rows)
left_all P request None rows h = h
left_all P (destroy old true) (Some row) rows h = filter_all P _ _ (filter_all P _ rows h)
left_all P (destroy old false) (Some row) rows h = filter_all P _ rows h
left_all P get_profile (Some row) rows h = filter_all P _ rows h
left_all P (initialize m) (Some row) rows h = filter_all P _ rows h
left_all P (derive d) (Some row) rows h = filter_all P _ rows h
left_all P (sign d) (Some row) rows h = filter_all P _ rows h
left_all P (seal d) (Some row) rows h = filter_all P _ rows h
left_all P (unseal d) (Some row) rows h = filter_all P _ rows h
left_all P (rotate d m) (Some row) rows h = filter_all P _ rows h

-- the row that was used is not among them
not_same : (row other : Row) → not (bytes_eq other.handle row.handle) ≡ true → bytes_eq other.handle row.handle ≡ false
not_same row other h = turned (bytes_eq other.handle row.handle) h
  where
    turned : (b : Bool) → not b ≡ true → b ≡ false
    turned true h = cc
    turned false h = refl

pub taken_gone : (row : Row) (rows : List Row) → AllByRecursion (λ other. bytes_eq other.handle row.handle ≡ false) (taken_out row rows)
taken_gone row rows = weaker_all _ _ (not_same row) (taken_out row rows) (filter_passed (λ other. not (bytes_eq other.handle row.handle)) rows)

pub left_gone : (request : Request) (row : Row) (rows : List Row) → AllByRecursion (λ other. bytes_eq other.handle row.handle ≡ false) (rows_left request (Some row) rows)
left_gone (destroy old true) row rows = filter_all _ _ _ (taken_gone row rows)
left_gone (destroy old false) row rows = taken_gone row rows
left_gone get_profile row rows = taken_gone row rows
left_gone (initialize m) row rows = taken_gone row rows
left_gone (derive d) row rows = taken_gone row rows
left_gone (sign d) row rows = taken_gone row rows
left_gone (seal d) row rows = taken_gone row rows
left_gone (unseal d) row rows = taken_gone row rows
left_gone (rotate d m) row rows = taken_gone row rows

-- the rows that are made have serials from next on, and below the new next
pub from_spread_rows : (lo from hi : ℕ) (rows : List Row) → lo ≤ from → Spread from (map issue rows) hi → AllByRecursion (λ row. lo ≤ serial row.handle) rows
from_spread_rows lo from hi [] l h = tt
from_spread_rows lo from hi (row ∷ rows) l h = let p = h.0 in (omega arith, from_spread_rows lo (serial row.handle + 1) hi rows (omega arith) h.1)

spread_end : (from hi : ℕ) (rows : List Row) → Spread from (map issue rows) hi → from ≤ hi
spread_end from hi [] h = h
spread_end from hi (row ∷ rows) h = let p = h.0 in let q = spread_end (serial row.handle + 1) hi rows h.1 in omega arith

pub below_spread_rows : (from hi : ℕ) (rows : List Row) → Spread from (map issue rows) hi → AllByRecursion (λ row. serial row.handle < hi) rows
below_spread_rows from hi [] h = tt
below_spread_rows from hi (row ∷ rows) h = let q = spread_end (serial row.handle + 1) hi rows h.1 in (omega arith, below_spread_rows (serial row.handle + 1) hi rows h.1)

spread_of : (seed : List ℕ) (S : State) (l : ℕ) (random : List ℕ) (request : Request) → verdict seed S l request ≡ None →
    Spread S.next (map issue (rows_made S l random request (used S l request))) (S.next + makes request)
spread_of seed S l random request ok = spread_made S l random request (used S l request) (fits S.next (makes request) (passed seed S l request (used S l request) ok).serials)

-- ## Serials of live rows

abbrev pub Below : State → Type 0
Below S = AllByRecursion (λ row. serial row.handle < S.next) S.rows

below_step : (seed : List ℕ) (S : State) (l : ℕ) (random bytes : List ℕ) (o : Outcome) → IsStep seed S l random bytes o → Below S → Below o.state
below_step seed S l random bytes o (refusing code n) h = h
below_step seed S l random bytes o (obeying request is ok) h =
    append_all _ (rows_left request (used S l request) S.rows) (rows_made S l random request (used S l request))
    (left_all _ request (used S l request) S.rows (weaker_all (λ (row : Row). serial row.handle < S.next) (λ (row : Row). serial row.handle < S.next + makes request) (λ row k. omega arith) S.rows h))
    (below_spread_rows S.next (S.next + makes request) _ (spread_of seed S l random request ok))

pub below_all : (seed : List ℕ) (S : State) (es : List Entry) → Below S → Below (after_all seed S es)
below_all seed S [] h = h
below_all seed S (e ∷ es) h = below_all seed (after seed S e) es (below_step seed S e.locality e.random e.payload _ (each_step seed S e.locality e.random e.payload) h)

-- ## A spent handle

-- no row has the handle, and none will
pub record Gone (S : State) (handle : List ℕ) : Type 0 where
  pub absent : AllByRecursion (λ row. bytes_eq row.handle handle ≡ false) S.rows
  pub old : serial handle < S.next

-- a handle with a later serial is another
later_differs : (handle : List ℕ) (row : Row) (n : ℕ) → serial handle < n → n ≤ serial row.handle → bytes_eq row.handle handle ≡ false
later_differs handle row n l h = other_bytes row.handle handle (λ e. let k = ap serial e in omega arith)

made_differ : (seed : List ℕ) (S : State) (l : ℕ) (random : List ℕ) (request : Request) (handle : List ℕ) → verdict seed S l request ≡ None → serial handle < S.next →
    AllByRecursion (λ row. bytes_eq row.handle handle ≡ false) (rows_made S l random request (used S l request))
made_differ seed S l random request handle ok old =
    weaker_all (λ (row : Row). S.next ≤ serial row.handle) (λ (row : Row). bytes_eq row.handle handle ≡ false) (λ row h. later_differs handle row S.next old h) (rows_made S l random request (used S l request))
    (from_spread_rows S.next S.next (S.next + makes request) _ (let le : S.next ≤ S.next = omega arith in le) (spread_of seed S l random request ok))

gone_step : (seed : List ℕ) (S : State) (l : ℕ) (random bytes handle : List ℕ) (o : Outcome) → IsStep seed S l random bytes o → Gone S handle → Gone o.state handle
gone_step seed S l random bytes handle o (refusing code n) h = h
gone_step seed S l random bytes handle o (obeying request is ok) h = let old = h.old in record {
  absent = append_all _ (rows_left request (used S l request) S.rows) (rows_made S l random request (used S l request))
      (left_all _ request (used S l request) S.rows h.absent) (made_differ seed S l random request handle ok old);
  old = omega arith;
}

pub gone_all : (seed : List ℕ) (S : State) (es : List Entry) (handle : List ℕ) → Gone S handle → Gone (after_all seed S es) handle
gone_all seed S [] handle h = h
gone_all seed S (e ∷ es) handle h = gone_all seed (after seed S e) es handle (gone_step seed S e.locality e.random e.payload handle _ (each_step seed S e.locality e.random e.payload) h)

-- ## The row that an entry uses

-- the row that a name finds, or that is the default, is found by a test
pub meant : (P : Row → Type 0) (rows : List Row) (l : ℕ) (name : Option (List ℕ)) (row : Row) → ((p : Row → Bool) → find p rows ≡ Some row → P row) → row_for rows l name ≡ Some row → P row
meant P rows l None row f e = f (is_default_of l) e
meant P rows l (Some handle) row f e = f (λ row. bytes_eq row.handle handle) e

-- and so is the one that a command uses
pub used_is_found : (P : Row → Type 0) (S : State) (l : ℕ) (request : Request) (row : Row) → ((p : Row → Bool) → find p S.rows ≡ Some row → P row) → used S l request ≡ Some row → P row
used_is_found P S l request row f e = by_use (uses_row request) e
  where
    by_use : (b : Bool) → cond b (row_for S.rows l (named request)) None ≡ Some row → P row
    by_use true e = meant P S.rows l (named request) row f e
    by_use false e = cc

pub used_all : (P : Row → Type 0) (S : State) (l : ℕ) (request : Request) (row : Row) → AllByRecursion P S.rows → used S l request ≡ Some row → P row
used_all P S l request row h e = used_is_found P S l request row (λ p f. (found_all P p S.rows row h f).0) e

-- what an entry accepts is the handle of the row that its command uses
pub accepts_row : (S : State) (e : Entry) (handle : List ℕ) → accepted S e ≡ Some handle →
    (request : Request) × (row : Row) × (classes.class e.payload ≡ classes.accepted request) × (used S e.locality request ≡ Some row) × (row.handle ≡ handle) × (is_accepted e ≡ true)
accepts_row S e handle h = by_test (is_accepted e) (classes.class e.payload) refl refl h
  where
    by_row : (request : Request) (o : Option Row) → classes.class e.payload ≡ classes.accepted request → used S e.locality request ≡ o → is_accepted e ≡ true → option_map (λ row. row.handle) o ≡ Some handle →
        (request : Request) × (row : Row) × (classes.class e.payload ≡ classes.accepted request) × (used S e.locality request ≡ Some row) × (row.handle ≡ handle) × (is_accepted e ≡ true)
    by_row request None is u t k = cc
    by_row request (Some row) is u t k = (request, row, is, u, cc, t)

    by_test : (b : Bool) (r : classes.Class) → is_accepted e ≡ b → classes.class e.payload ≡ r → option_map (λ row. row.handle) (cond b (option_and_then (used S e.locality) (accepted_class r)) None) ≡ Some handle →
        (request : Request) × (row : Row) × (classes.class e.payload ≡ classes.accepted request) × (used S e.locality request ≡ Some row) × (row.handle ≡ handle) × (is_accepted e ≡ true)
    by_test true (classes.accepted request) t is k = by_row request (used S e.locality request) is refl t k
    by_test true (classes.refused fault) t is k = cc
    by_test false r t is k = cc

-- the reply of a refused command is no accepted one
pub refused_not_accepted : (e : Entry) (code : ℕ) → replies.IsRefusalCode code → e.reply ≡ reply_payload (replies.refused code) → is_accepted e ≡ true → ⊥
refused_not_accepted e code n h a =
    let is_code : reply_code e.reply ≡ Some code = ap reply_code h ∙ code_read (replies.refused code) n in
    let never : is_accepted e ≡ false = ap is_zero is_code ∙ not_zero code n in
    cc

-- a handle that is accepted is gone after the entry
spent_step : (seed : List ℕ) (S : State) (e : Entry) (request : Request) (row : Row) → classes.class e.payload ≡ classes.accepted request → used S e.locality request ≡ Some row → is_accepted e ≡ true → Below S →
    (o : Outcome) → IsStep seed S e.locality e.random e.payload o → e.reply ≡ reply_payload o.reply → Gone o.state row.handle
spent_step seed S e request row is u t b o (refusing code n) r =
    absurd (refused_not_accepted e code n r t)
spent_step seed S e request row is u t b o (obeying other is' ok) r =
    let same : request ≡ other = cc in
    let u' : used S e.locality other ≡ Some row = subst (λ k. used S e.locality k ≡ Some row) same u in
    let old = used_all (λ row. serial row.handle < S.next) S e.locality other row b u' in
    record {
      absent = append_all _ (rows_left other (used S e.locality other) S.rows) (rows_made S e.locality e.random other (used S e.locality other))
          (subst (λ o. AllByRecursion (λ k. bytes_eq k.handle row.handle ≡ false) (rows_left other o S.rows)) (sym u') (left_gone other row S.rows))
          (made_differ seed S e.locality e.random other row.handle ok old);
      old = omega arith;
    }

pub spent_gone : (seed : List ℕ) (S : State) (e : Entry) (es : List Entry) (handle : List ℕ) → LegalFrom seed S (e ∷ es) → Below S → accepted S e ≡ Some handle → Gone (after seed S e) handle
spent_gone seed S e es handle h b a =
    let r = accepts_row S e handle a in
    subst (Gone (after seed S e)) r.4 (spent_step seed S e r.0 r.1 r.2 r.3 r.5 b (step seed S e.locality e.random e.payload) (each_step seed S e.locality e.random e.payload) (legal_head seed S e es h))

-- ## What is gone is refused

pub gone_not_accepted : (S : State) (f : Entry) (handle : List ℕ) → Gone S handle → accepted S f ≢ Some handle
gone_not_accepted S f handle g a =
    let r = accepts_row S f handle a in
    let other = used_all (λ row. bytes_eq row.handle handle ≡ false) S f.locality r.0 r.1 g.absent r.3 in
    let same = (bytes_eq-Decides r.1.handle handle).1 r.4 in
    cc

no_row : (seed : List ℕ) (S : State) (l : ℕ) (request : Request) (handle : List ℕ) → named request ≡ Some handle → first_code (tests seed S l request None) ≡ Some 17
no_row seed S l get_profile handle n = cc
no_row seed S l (initialize m) handle n = cc
no_row seed S l (derive d) handle n = let k = ap is_some n in rw k refl
no_row seed S l (sign d) handle n = let k = ap is_some n in rw k refl
no_row seed S l (seal d) handle n = let k = ap is_some n in rw k refl
no_row seed S l (unseal d) handle n = let k = ap is_some n in rw k refl
no_row seed S l (rotate d m) handle n = let k = ap is_some n in rw k refl
no_row seed S l (destroy d r) handle n = let k = ap is_some n in rw k refl

gone_unused : (S : State) (l : ℕ) (request : Request) (handle : List ℕ) → Gone S handle → named request ≡ Some handle → used S l request ≡ None
gone_unused S l request handle g n =
    ap (λ name. cond (uses_row request) (row_for S.rows l name) None) n ∙ none (uses_row request)
  where
    none : (b : Bool) → cond b (row_for S.rows l (Some handle)) None ≡ None
    none true = find_none (λ row. bytes_eq row.handle handle) S.rows g.absent
    none false = refl

gone_verdict : (seed : List ℕ) (S : State) (l : ℕ) (request : Request) (handle : List ℕ) → Gone S handle → named request ≡ Some handle → verdict seed S l request ≡ Some 17
gone_verdict seed S l request handle g n =
    ap (λ row. first_code (tests seed S l request row)) (gone_unused S l request handle g n) ∙ no_row seed S l request handle n

pub gone_refused : (seed : List ℕ) (S : State) (f : Entry) (handle : List ℕ) → f.reply ≡ reply_to seed S f → Gone S handle → option_and_then named (request_at f) ≡ Some handle → reply_code f.reply ≡ Some 17
gone_refused seed S f handle r g n = by_class (classes.class f.payload) refl n
  where
    by_class : (c : classes.Class) → classes.class f.payload ≡ c → option_and_then named (accepted_class c) ≡ Some handle → reply_code f.reply ≡ Some 17
    by_class (classes.refused fault) is n = cc
    by_class (classes.accepted request) is n =
        ap reply_code r
        ∙ (ap (λ c. reply_code (reply_payload (stepped seed S f.locality f.random c).reply)) is
        ∙ (ap (λ v. reply_code (reply_payload (judged seed S f.locality f.random request v).reply)) (gone_verdict seed S f.locality request handle g n)
        ∙ code_read (replies.refused 17) (inr (inr (inr (omega arith, omega arith))))))

pub spent_for_good : (seed : List ℕ) (first : ℕ) (before between rest : List Entry) (e f : Entry) (handle : List ℕ) →
    LegalFrom seed (start first) (before ++ e ∷ (between ++ f ∷ rest)) → accepted (after_all seed (start first) before) e ≡ Some handle →
    (accepted (after_all seed (start first) (before ++ e ∷ between)) f ≢ Some handle) × (option_and_then named (request_at f) ≡ Some handle → reply_code f.reply ≡ Some 17)
spent_for_good seed first before between rest e f handle h a =
    let S = after_all seed (start first) before in
    let from_e = legal_rest seed (start first) before (e ∷ (between ++ f ∷ rest)) h in
    let from_f = legal_rest seed (after seed S e) between (f ∷ rest) (legal_tail seed S e (between ++ f ∷ rest) from_e) in
    let gone = spent_gone seed S e (between ++ f ∷ rest) handle from_e (below_all seed (start first) before tt) a in
    let gone_f = gone_all seed (after seed S e) between handle gone in
    let there = after_append seed (start first) before (e ∷ between) in (
      gone_not_accepted (after_all seed (start first) (before ++ e ∷ between)) f handle (subst (λ T. Gone T handle) (sym there) gone_f),
      gone_refused seed (after_all seed (after seed S e) between) f handle (legal_head seed (after_all seed (after seed S e) between) f rest from_f) gone_f,
    )
