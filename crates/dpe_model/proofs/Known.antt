-- Each live row was issued before.
use Rattle.std.proofs.Common.{◌≡◌, ◌≢◌, ◌⊎◌, inl, inr, refl, AllPairs, ℕ, List, [], ◌∷◌, ◌++◌, ap, sym, ◌∙◌, subst, map, not, true, nat_eq, Some, append_assoc, Contains, arith}
use Rattle.std.specs.List.{AllByRecursion}
use Rattle.std.proofs.lemmas.List.Elements.{Contains-append_left, Contains-append_right, Contains-append_cases, All-contains_itself, All-contains, All-from_recursion, recursion_from_All}
use Rattle.dpe_messages.specs.Request.{Request}
use Rattle.dpe_messages.specs.Class as classes
use Rattle.dpe_messages.specs.Replies.{reply_payload}
use Rattle.dpe_model.specs.State.{Row, State, start}
use Rattle.dpe_model.specs.Verdict.{used, has}
use Rattle.dpe_model.specs.Step.{Outcome, step, rows_left, rows_made}
use Rattle.dpe_model.specs.History.{Entry, IsEntry, LegalFrom, Issue, issued, all_issued, accepted, is_accepted, after, after_all}
use Rattle.dpe_model.specs.Laws.{IssuedByOne}
use Rattle.dpe_model.proofs.RowLists.{pairs_head, pairs_tail}
use Rattle.dpe_model.proofs.Accepted.{IsStep, refusing, obeying, each_step, passed}
use Rattle.dpe_model.proofs.Issues.{issue, accepted_issues, same_number}
use Rattle.dpe_model.proofs.Spent.{left_all, weaker_all, used_all, accepts_row, refused_not_accepted}
use Rattle.dpe_model.proofs.Runs.{append_all, rest_all, legal_front, legal_head, legal_tail, legal_rest}

-- each live row was issued, to its locality, by what is in the list
abbrev pub Known : List Issue → State → Type 0
Known known S = AllByRecursion (λ row. Contains known (issue row)) S.rows

of_map : {X Y : Type 0} (P : Y → Type 0) (f : X → Y) (xs : List X) → AllByRecursion P (map f xs) → AllByRecursion (λ x. P (f x)) xs
of_map P f [] h = tt
of_map P f (x ∷ xs) h = (h.0, of_map P f xs h.1)

made_known : (rows : List Row) → AllByRecursion (λ row. Contains (map issue rows) (issue row)) rows
made_known rows = of_map (Contains (map issue rows)) issue rows (recursion_from_All (Contains (map issue rows)) (map issue rows) (All-contains_itself (map issue rows)))

known_step : (seed : List ℕ) (S : State) (e : Entry) (known : List Issue) → IsEntry e → (o : Outcome) → IsStep seed S e.locality e.random e.payload o → e.reply ≡ reply_payload o.reply → Known known S → Known (known ++ issued e) o.state
known_step seed S e known i o (refusing code n) r h = weaker_all (λ (row : Row). Contains known (issue row)) (λ (row : Row). Contains (known ++ issued e) (issue row)) (λ row k. Contains-append_left known (issued e) (issue row) k) S.rows h
known_step seed S e known i o (obeying request is ok) r h =
    let row = used S e.locality request in
    let made = rows_made S e.locality e.random request row in
    let is_made : issued e ≡ map issue made = accepted_issues seed S e request i.random.0 is ok r in
    append_all (λ (row : Row). Contains (known ++ issued e) (issue row)) (rows_left request row S.rows) made
    (left_all _ request row S.rows (weaker_all (λ (row : Row). Contains known (issue row)) (λ (row : Row). Contains (known ++ issued e) (issue row)) (λ row k. Contains-append_left known (issued e) (issue row) k) S.rows h))
    (subst (λ is. AllByRecursion (λ (row : Row). Contains (known ++ is) (issue row)) made) (sym is_made)
    (weaker_all (λ (row : Row). Contains (map issue made) (issue row)) (λ (row : Row). Contains (known ++ map issue made) (issue row)) (λ row k. Contains-append_right known (map issue made) (issue row) k) made (made_known made)))

pub known_all : (seed : List ℕ) (S : State) (es : List Entry) (known : List Issue) → LegalFrom seed S es → Known known S → Known (known ++ all_issued es) (after_all seed S es)
known_all seed S [] known l h = weaker_all (λ (row : Row). Contains known (issue row)) (λ (row : Row). Contains (known ++ []) (issue row)) (λ row k. Contains-append_left known [] (issue row) k) S.rows h
known_all seed S (e ∷ es) known l h =
    subst (λ is. Known is (after_all seed (after seed S e) es)) (append_assoc known (issued e) (all_issued es))
    (known_all seed (after seed S e) es (known ++ issued e) (legal_tail seed S e es l)
    (known_step seed S e known l.entries.0 (step seed S e.locality e.random e.payload) (each_step seed S e.locality e.random e.payload) (legal_head seed S e es l) h))

-- an accepted entry stands at the locality of the row that it uses
own_locality : (seed : List ℕ) (S : State) (e : Entry) (request : Request) (row : Row) → classes.class e.payload ≡ classes.accepted request → used S e.locality request ≡ Some row → is_accepted e ≡ true →
    (o : Outcome) → IsStep seed S e.locality e.random e.payload o → e.reply ≡ reply_payload o.reply → row.locality ≡ e.locality
own_locality seed S e request row is u t o (refusing code n) r =
    absurd (refused_not_accepted e code n r t)
own_locality seed S e request row is u t o (obeying other is' ok) r =
    let same : other ≡ request = cc in
    let u' : used S e.locality other ≡ Some row = subst (λ k. used S e.locality k ≡ Some row) (sym same) u in
    let owner = (passed seed S e.locality other (used S e.locality other) ok).owner in
    same_number row.locality e.locality (ap (λ o. has o (λ r. not (nat_eq r.locality e.locality))) (sym u') ∙ owner)

pub known_before : (seed : List ℕ) (first : ℕ) (before rest : List Entry) (e : Entry) (handle : List ℕ) →
    LegalFrom seed (start first) (before ++ e ∷ rest) → accepted (after_all seed (start first) before) e ≡ Some handle → Contains (all_issued before) (handle, e.locality)
known_before seed first before rest e handle h a =
    let S = after_all seed (start first) before in
    let from_e = legal_rest seed (start first) before (e ∷ rest) h in
    let r = accepts_row S e handle a in
    let known = known_all seed (start first) before [] (legal_front seed (start first) before (e ∷ rest) h) tt in
    let there = used_all (λ row. Contains (all_issued before) (issue row)) S e.locality r.0 r.1 known r.3 in
    let own = own_locality seed S e r.0 r.1 r.2 r.3 r.5 (step seed S e.locality e.random e.payload) (each_step seed S e.locality e.random e.payload) (legal_head seed S e rest from_e) in
    let same : issue r.1 ≡ (handle, e.locality) = ap (λ h. (h, r.1.locality)) r.4 ∙ ap (λ l. (handle, l)) own in
    subst (Contains (all_issued before)) same there

-- ## Issued by one entry

-- of two lists in one, each of the first and each of the second are apart
across : (R : Issue → Issue → Type 0) (xs ys : List Issue) → AllPairs R (xs ++ ys) → AllByRecursion (λ x. AllByRecursion (R x) ys) xs
across R [] ys h = tt
across R (x ∷ xs) ys h = (rest_all (R x) xs ys (pairs_head R x (xs ++ ys) h), across R xs ys (pairs_tail R x (xs ++ ys) h))

-- and so are those of the second
latter : (R : Issue → Issue → Type 0) (xs ys : List Issue) → AllPairs R (xs ++ ys) → AllPairs R ys
latter R [] ys h = h
latter R (x ∷ xs) ys h = latter R xs ys (pairs_tail R x (xs ++ ys) h)

abbrev Differ : Issue → Issue → Type 0
Differ a b = a.0 ≢ b.0

of_contained : (P : Issue → Type 0) (xs : List Issue) (x : Issue) → AllByRecursion P xs → Contains xs x → P x
of_contained P xs x h c = All-contains P xs x (All-from_recursion P xs h) c

-- the handle is issued by the first entry, and by none of the others
by_first : (e : Entry) (es : List Entry) (handle : List ℕ) (locality : ℕ) → AllPairs Differ (issued e ++ all_issued es) → Contains (issued e) (handle, locality) → IssuedByOne (e ∷ es) handle locality
by_first e es handle locality d here = (
  [],
  es,
  e,
  refl,
  here,
  weaker_all (Differ (handle, locality)) (λ (i : Issue). i.0 ≢ handle) (λ i n s. n (sym s)) (all_issued es)
      (of_contained (λ i. AllByRecursion (Differ i) (all_issued es)) (issued e) (handle, locality) (across Differ (issued e) (all_issued es) d) here),
)

-- or by one of the others, and not by the first
by_later : (e : Entry) (es : List Entry) (handle : List ℕ) (locality : ℕ) → AllPairs Differ (issued e ++ all_issued es) → Contains (all_issued es) (handle, locality) → IssuedByOne es handle locality → IssuedByOne (e ∷ es) handle locality
by_later e es handle locality d there one =
    let rest = all_issued (one.0 ++ one.1) in (
      e ∷ one.0,
      one.1,
      one.2,
      ap (λ xs. e ∷ xs) one.3,
      one.4,
      append_all (λ (i : Issue). i.0 ≢ handle) (issued e) rest
          (weaker_all (λ (i : Issue). AllByRecursion (Differ i) (all_issued es)) (λ (i : Issue). i.0 ≢ handle) (λ i k. of_contained (Differ i) (all_issued es) (handle, locality) k there) (issued e) (across Differ (issued e) (all_issued es) d))
          one.5,
    )

one_of : (e : Entry) (es : List Entry) (handle : List ℕ) (locality : ℕ) → AllPairs Differ (issued e ++ all_issued es) → Contains (issued e) (handle, locality) ⊎ Contains (all_issued es) (handle, locality) →
    (Contains (all_issued es) (handle, locality) → IssuedByOne es handle locality) → IssuedByOne (e ∷ es) handle locality
one_of e es handle locality d (inl here) later = by_first e es handle locality d here
one_of e es handle locality d (inr there) later = by_later e es handle locality d there (later there)

pub issued_by_one : (H : List Entry) (handle : List ℕ) (locality : ℕ) → AllPairs Differ (all_issued H) → Contains (all_issued H) (handle, locality) → IssuedByOne H handle locality
issued_by_one [] handle locality d c = absurd (let lt = c.1 in omega arith)
issued_by_one (e ∷ es) handle locality d c =
    one_of e es handle locality d (Contains-append_cases (issued e) (all_issued es) (handle, locality) c) (issued_by_one es handle locality (latter Differ (issued e) (all_issued es) d))
