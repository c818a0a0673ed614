-- What is issued: the handles of the rows that a step makes, and their serials.
use Rattle.std.proofs.Common.{◌≡◌, ◌≢◌, ℕ, ◌+◌, ◌^◌, ◌-◌, ◌<◌, ◌≤◌, List, [], ◌∷◌, ◌++◌, refl, ap, sym, ◌∙◌, subst, map, Bool, true, false, cond, not, ◌&&◌, nat_eq, nat_lt, Option, Some, None, length, take, drop, arith, is_some, is_none, length-append, All, AllPairs, IfSome, option_and_then}
use Rattle.std.specs.Int.{to_be_bytes, w64}
use Rattle.std.proofs.lemmas.Bool.Decides.{nat_tests}
use Rattle.std.proofs.lemmas.List.{length-take-le, length-drop}
use Rattle.std.proofs.lemmas.List.Elements.{All-nil, All-cons, All-weaker}
use Rattle.std.proofs.lemmas.List.Kept.{AllPairs-cons}
use Rattle.dpe_messages.specs.FlatMap.{FlatMap, value_at}
use Rattle.dpe_messages.specs.Request.{Request, DeriveRequest, get_profile, initialize, derive, sign, seal, unseal, rotate, destroy, bytes_if, locality_or}
use Rattle.dpe_messages.specs.Ranges.{InRanges, IsHandle}
use Rattle.dpe_messages.specs.Class as classes
use Rattle.dpe_messages.specs.Replies as replies
use Rattle.dpe_messages.specs.Replies.{reply_payload}
use Rattle.dpe_inputs.specs.Cdi.{attest_cdi, seal_cdi}
use Rattle.dpe_messages.proofs.AcceptedLemmas.{accepted_in_ranges}
use Rattle.dpe_model.specs.State.{Row, State, serial, handle_of, path}
use Rattle.dpe_model.specs.Verdict.{used, makes, uses_row, verdict}
use Rattle.dpe_model.specs.Step.{Outcome, step, rows_made, answer, new0, new1, new_if, again, renamed, child, masks_of, salt_of}
use Rattle.dpe_model.specs.History.{Entry, IsEntry, reply_of, reply_bytes, LegalFrom, Issue, issue_to, issues, issued_by, issued, all_issued, accepted_class, request_at, after, after_all}
use Rattle.dpe_model.proofs.Messages.{reply_read}
use Rattle.dpe_model.proofs.Sizes.{length-signature, length-sealed_box, length-text_of}
use Rattle.dpe_model.proofs.Accepted.{IsStep, refusing, obeying, each_step, Passed, passed, serial-handle_of}
use Rattle.dpe_model.proofs.Runs.{legal_head, legal_tail}

pub same_number : (a b : ℕ) → not (nat_eq a b) ≡ false → a ≡ b
same_number a b h = grind (arith, nat_tests)

-- what is issued with a row
abbrev pub issue : Row → Issue
issue row = (row.handle, row.locality)

-- a command that was accepted has the row that it uses
pub found_row : (name : Option (List ℕ)) (row : Option Row) → is_none row && is_some name ≡ false → is_none row && true && is_none name ≡ false → true ≡ is_some row
found_row name (Some row) t k = refl
found_row (Some h) None t k = cc
found_row None None t k = cc

-- ## What a reply tells

-- the handles in a response, each with the locality to which it is issued
abbrev response_issues : ℕ → ℕ → replies.Response → List Issue
response_issues target caller (replies.refused code) = []
response_issues target caller replies.profile = []
response_issues target caller (replies.handle handle) = (handle, caller) ∷ []
response_issues target caller (replies.derived child parent) = (child, target) ∷ issue_to caller parent
response_issues target caller (replies.made handle bytes) = issue_to caller handle
response_issues target caller replies.done = []

abbrev read_at : ℕ → ℕ → Option (ℕ × FlatMap) → List Issue
read_at key locality o = issue_to locality (option_and_then (λ r. bytes_if (value_at key r.1)) o)

handle_read : (l : ℕ) (h : List ℕ) → replies.IsSendable (replies.handle h) → read_at 1 l (reply_of (reply_payload (replies.handle h))) ≡ (h, l) ∷ []
handle_read l h s = ap (read_at 1 l) (reply_read (replies.handle h) s)

made_read : (l : ℕ) (h : Option (List ℕ)) (b : List ℕ) → replies.IsSendable (replies.made h b) → read_at 1 l (reply_of (reply_payload (replies.made h b))) ≡ issue_to l h
made_read l None b s = ap (read_at 1 l) (reply_read (replies.made None b) s)
made_read l (Some h) b s = ap (read_at 1 l) (reply_read (replies.made (Some h) b) s)

derived_read : (t l : ℕ) (c : List ℕ) (p : Option (List ℕ)) → replies.IsSendable (replies.derived c p) →
    read_at 1 t (reply_of (reply_payload (replies.derived c p))) ++ read_at 2 l (reply_of (reply_payload (replies.derived c p))) ≡ (c, t) ∷ issue_to l p
derived_read t l c None s = ap (λ o. read_at 1 t o ++ read_at 2 l o) (reply_read (replies.derived c None) s)
derived_read t l c (Some p) s = ap (λ o. read_at 1 t o ++ read_at 2 l o) (reply_read (replies.derived c (Some p)) s)

refused_read : (code l : ℕ) → replies.IsRefusalCode code → (key : ℕ) → read_at key l (reply_of (reply_payload (replies.refused code))) ≡ []
refused_read code l h key = ap (read_at key l) (reply_read (replies.refused code) h)

-- ## The reply of an accepted command

again_issued : (S : State) (random : List ℕ) (row : Row) (retain : Bool) (l : ℕ) → row.locality ≡ l → issue_to l (new_if S random retain) ≡ map issue (again S random row retain)
again_issued S random row true l h = ap (λ k. (new0 S random, k) ∷ []) (sym h)
again_issued S random row false l h = refl

derived_issued : (S : State) (random : List ℕ) (row : Row) (d : DeriveRequest) (l : ℕ) → row.locality ≡ l → (retain : Bool) →
    (new0 S random, locality_or l d) ∷ issue_to l (cond retain (Some (new1 S random)) None)
    ≡ map issue (child S l random d row ∷ cond retain (renamed row (new1 S random) ∷ []) [])
derived_issued S random row d l h true = ap (λ k. (new0 S random, locality_or l d) ∷ (new1 S random, k) ∷ []) (sym h)
derived_issued S random row d l h false = refl

handle_length : (n : ℕ) (random : List ℕ) → length random ≡ 8 → IsHandle (handle_of n random)
handle_length n random h = length-append (to_be_bytes w64 n) random ∙ ap (λ k. 8 + k) h

pub new0_length : (S : State) (random : List ℕ) → length random ≡ 32 → IsHandle (new0 S random)
new0_length S random h = handle_length S.next (take 8 random) (length-take-le 8 random (omega arith))

pub new1_length : (S : State) (random : List ℕ) → length random ≡ 32 → IsHandle (new1 S random)
new1_length S random h = handle_length (S.next + 1) (take 8 (drop 8 random)) (length-take-le 8 (drop 8 random) (simp length-drop (omega arith)))

made_handle : (S : State) (random : List ℕ) → length random ≡ 32 → (retain : Bool) → IfSome (new_if S random retain) IsHandle
made_handle S random h true = new0_length S random h
made_handle S random h false = tt

parent_handle : (S : State) (random : List ℕ) → length random ≡ 32 → (retain : Bool) → IfSome (cond retain (Some (new1 S random)) None) IsHandle
parent_handle S random h true = new1_length S random h
parent_handle S random h false = tt

made_is_sendable : (S : State) (random bytes : List ℕ) (retain : Bool) → length random ≡ 32 → length bytes ≤ 2133 → replies.IsSendable (replies.made (new_if S random retain) bytes)
made_is_sendable S random bytes retain h l = (made_handle S random h retain, l)

-- The reply of an accepted command may be sent.
pub answer_sendable : (seed : List ℕ) (S : State) (random : List ℕ) (request : Request) (row : Option Row) → length random ≡ 32 → uses_row request ≡ is_some row → InRanges request →
    replies.IsSendable (answer seed S random request row)
answer_sendable seed S random get_profile None h t r = tt
answer_sendable seed S random get_profile (Some row) h t r = cc
answer_sendable seed S random (initialize m) None h t r = new0_length S random h
answer_sendable seed S random (initialize m) (Some row) h t r = cc
answer_sendable seed S random (derive d) None h t r = cc
answer_sendable seed S random (derive d) (Some row) h t r = (new0_length S random h, parent_handle S random h d.retain)
answer_sendable seed S random (sign s) None h t r = cc
answer_sendable seed S random (sign s) (Some row) h t r =
    made_is_sendable S random _ s.retain h (omega (arith, length-signature (attest_cdi seed (path row)) s.label s.message))
answer_sendable seed S random (seal s) None h t r = cc
answer_sendable seed S random (seal s) (Some row) h t r =
    let salt : length (salt_of random) ≡ 16 = length-drop 16 random ∙ ap (λ n. n - 16) h in
    let plain = r.plain in
    made_is_sendable S random _ s.retain h (omega (arith, length-sealed_box (seal_cdi seed (path row)) s.label (masks_of s) (salt_of random) s.plain salt))
answer_sendable seed S random (unseal u) None h t r = cc
answer_sendable seed S random (unseal u) (Some row) h t r =
    made_is_sendable S random _ u.retain h (omega (arith, length-text_of (seal_cdi seed (path row)) u.label u.sealed))
answer_sendable seed S random (rotate old m) None h t r = cc
answer_sendable seed S random (rotate old m) (Some row) h t r = new0_length S random h
answer_sendable seed S random (destroy old r) None h t k = cc
answer_sendable seed S random (destroy old r) (Some row) h t k = tt

-- an accepted command finds the row that it uses
pub row_used : (seed : List ℕ) (S : State) (l : ℕ) (request : Request) → Passed seed S l request (used S l request) → uses_row request ≡ is_some (used S l request)
row_used seed S l get_profile t = refl
row_used seed S l (initialize m) t = refl
row_used seed S l (derive d) t = found_row d.handle (used S l (derive d)) t.found t.default
row_used seed S l (sign s) t = found_row s.handle (used S l (sign s)) t.found t.default
row_used seed S l (seal s) t = found_row s.handle (used S l (seal s)) t.found t.default
row_used seed S l (unseal u) t = found_row u.handle (used S l (unseal u)) t.found t.default
row_used seed S l (rotate h m) t = found_row h (used S l (rotate h m)) t.found t.default
row_used seed S l (destroy h r) t = found_row h (used S l (destroy h r)) t.found t.default

-- The reply tells the handles of the rows that are made, with their localities.
pub answer_issues : (seed : List ℕ) (S : State) (l : ℕ) (random : List ℕ) (request : Request) (row : Option Row) → Passed seed S l request row → uses_row request ≡ is_some row →
    replies.IsSendable (answer seed S random request row) →
    issues l request (reply_payload (answer seed S random request row)) ≡ map issue (rows_made S l random request row)
answer_issues seed S l random get_profile None t n s = refl
answer_issues seed S l random get_profile (Some row) t n s = refl
answer_issues seed S l random (initialize m) None t n s = handle_read l (new0 S random) s ∙ ap (λ k. (new0 S random, k) ∷ []) (same_number l 0 t.at_root)
answer_issues seed S l random (initialize m) (Some row) t n s = cc
answer_issues seed S l random (derive d) None t n s = cc
answer_issues seed S l random (derive d) (Some row) t n s =
    derived_read (locality_or l d) l (new0 S random) (cond d.retain (Some (new1 S random)) None) s ∙ derived_issued S random row d l (same_number row.locality l t.owner) d.retain
answer_issues seed S l random (sign q) None t n s = cc
answer_issues seed S l random (sign q) (Some row) t n s = made_read l (new_if S random q.retain) _ s ∙ again_issued S random row q.retain l (same_number row.locality l t.owner)
answer_issues seed S l random (seal q) None t n s = cc
answer_issues seed S l random (seal q) (Some row) t n s = made_read l (new_if S random q.retain) _ s ∙ again_issued S random row q.retain l (same_number row.locality l t.owner)
answer_issues seed S l random (unseal q) None t n s = cc
answer_issues seed S l random (unseal q) (Some row) t n s = made_read l (new_if S random q.retain) _ s ∙ again_issued S random row q.retain l (same_number row.locality l t.owner)
answer_issues seed S l random (rotate h m) None t n s = cc
answer_issues seed S l random (rotate h m) (Some row) t n s = handle_read l (new0 S random) s ∙ ap (λ k. (new0 S random, k) ∷ []) (sym (same_number row.locality l t.owner))
answer_issues seed S l random (destroy h r) None t n s = refl
answer_issues seed S l random (destroy h r) (Some row) t n s = refl

-- A refusal issues nothing.
nothing_in : (e : Entry) (code : ℕ) → replies.IsRefusalCode code → e.reply ≡ reply_payload (replies.refused code) → (key l : ℕ) → issue_to l (reply_bytes key e.reply) ≡ []
nothing_in e code n h key l = ap (λ p. issue_to l (reply_bytes key p)) h ∙ refused_read code l n key

refused_issues : (e : Entry) (code : ℕ) → replies.IsRefusalCode code → e.reply ≡ reply_payload (replies.refused code) → (c : Option Request) → issued_by e c ≡ []
refused_issues e code n h None = refl
refused_issues e code n h (Some get_profile) = refl
refused_issues e code n h (Some (initialize m)) = nothing_in e code n h 1 e.locality
refused_issues e code n h (Some (derive d)) =
    ap (λ is. is ++ issue_to e.locality (reply_bytes 2 e.reply)) (nothing_in e code n h 1 (locality_or e.locality d)) ∙ nothing_in e code n h 2 e.locality
refused_issues e code n h (Some (sign s)) = nothing_in e code n h 1 e.locality
refused_issues e code n h (Some (seal s)) = nothing_in e code n h 1 e.locality
refused_issues e code n h (Some (unseal s)) = nothing_in e code n h 1 e.locality
refused_issues e code n h (Some (rotate s m)) = nothing_in e code n h 1 e.locality
refused_issues e code n h (Some (destroy s r)) = refl

-- An accepted command issues the rows that it makes.
pub accepted_issues : (seed : List ℕ) (S : State) (e : Entry) (request : Request) → length e.random ≡ 32 → classes.class e.payload ≡ classes.accepted request → verdict seed S e.locality request ≡ None →
    e.reply ≡ reply_payload (answer seed S e.random request (used S e.locality request)) →
    issued e ≡ map issue (rows_made S e.locality e.random request (used S e.locality request))
accepted_issues seed S e request n is ok h =
    let row = used S e.locality request in
    let t = passed seed S e.locality request row ok in
    let there = row_used seed S e.locality request t in
    ap (λ c. issued_by e (accepted_class c)) is
    ∙ (ap (issues e.locality request) h
    ∙ answer_issues seed S e.locality e.random request row t there (answer_sendable seed S e.random request row n there (accepted_in_ranges e.payload request is)))

-- the serials of what is issued rise, from lo on and below hi
abbrev pub Spread : ℕ → List Issue → ℕ → Type 0
Spread lo [] hi = lo ≤ hi
Spread lo (i ∷ is) hi = (lo ≤ serial i.0) × Spread (serial i.0 + 1) is hi

pub spread_append : (lo mid hi : ℕ) (xs ys : List Issue) → Spread lo xs mid → Spread mid ys hi → Spread lo (xs ++ ys) hi
spread_append lo mid hi [] ys h k = spread_lower lo mid hi ys h k
  where
    spread_lower : (lo mid hi : ℕ) (ys : List Issue) → lo ≤ mid → Spread mid ys hi → Spread lo ys hi
    spread_lower lo mid hi [] h k = omega arith
    spread_lower lo mid hi (y ∷ ys) h k = (let p = k.0 in omega arith, k.1)
spread_append lo mid hi (x ∷ xs) ys h k = (h.0, spread_append (serial x.0 + 1) mid hi xs ys h.1 k)

spread_one : (n : ℕ) (random : List ℕ) (l : ℕ) → n < 2 ^ 64 → Spread n ((handle_of n random, l) ∷ []) (n + 1)
spread_one n random l h = let P : ℕ → Type 0 = λ k. (n ≤ k) × (k + 1 ≤ n + 1) in subst P (sym (serial-handle_of n random h)) (omega arith, omega arith)

spread_two : (n : ℕ) (r s : List ℕ) (l m : ℕ) → n + 1 < 2 ^ 64 → Spread n ((handle_of n r, l) ∷ (handle_of (n + 1) s, m) ∷ []) (n + 2)
spread_two n r s l m h =
    let P : ℕ → Type 0 = λ k. (n ≤ k) × Spread (k + 1) ((handle_of (n + 1) s, m) ∷ []) (n + 2) in
    let Q : ℕ → Type 0 = λ k. Spread (n + 1) ((handle_of (n + 1) s, m) ∷ []) k in
    let up : n + 1 + 1 ≡ n + 2 = omega arith in
    subst P (sym (serial-handle_of n r (omega arith))) (omega arith, subst Q up (spread_one (n + 1) s m h))

pub fits : (n k : ℕ) → nat_lt (2 ^ 64 - 1) (n + k) ≡ false → n + k ≤ 2 ^ 64 - 1
fits n k h = grind (arith, nat_tests)

spread_again : (S : State) (random : List ℕ) (row : Row) (retain : Bool) → S.next + cond retain 1 0 ≤ 2 ^ 64 - 1 →
    Spread S.next (map issue (again S random row retain)) (S.next + cond retain 1 0)
spread_again S random row true h = spread_one S.next (take 8 random) row.locality (omega arith)
spread_again S random row false h = omega arith

spread_derived : (S : State) (random : List ℕ) (row : Row) (d : DeriveRequest) (l : ℕ) (retain : Bool) → S.next + cond retain 2 1 ≤ 2 ^ 64 - 1 →
    Spread S.next (map issue (child S l random d row ∷ cond retain (renamed row (new1 S random) ∷ []) [])) (S.next + cond retain 2 1)
spread_derived S random row d l true h = spread_two S.next (take 8 random) (take 8 (drop 8 random)) (locality_or l d) row.locality (omega arith)
spread_derived S random row d l false h = spread_one S.next (take 8 random) (locality_or l d) (omega arith)

pub spread_made : (S : State) (l : ℕ) (random : List ℕ) (request : Request) (row : Option Row) → S.next + makes request ≤ 2 ^ 64 - 1 →
    Spread S.next (map issue (rows_made S l random request row)) (S.next + makes request)
spread_made S l random get_profile row h = omega arith
spread_made S l random (initialize m) None h = spread_one S.next (take 8 random) 0 (omega arith)
spread_made S l random (initialize m) (Some row) h = omega arith
spread_made S l random (derive d) None h = omega arith
spread_made S l random (derive d) (Some row) h = spread_derived S random row d l d.retain h
spread_made S l random (sign s) None h = omega arith
spread_made S l random (sign s) (Some row) h = spread_again S random row s.retain h
spread_made S l random (seal s) None h = omega arith
spread_made S l random (seal s) (Some row) h = spread_again S random row s.retain h
spread_made S l random (unseal u) None h = omega arith
spread_made S l random (unseal u) (Some row) h = spread_again S random row u.retain h
spread_made S l random (rotate old m) None h = omega arith
spread_made S l random (rotate old m) (Some row) h = spread_one S.next (take 8 random) row.locality (omega arith)
spread_made S l random (destroy old r) row h = omega arith

-- What an entry issues has the serials that the state moves on by.
spread_step : (seed : List ℕ) (S : State) (e : Entry) → IsEntry e → (o : Outcome) → IsStep seed S e.locality e.random e.payload o → e.reply ≡ reply_payload o.reply →
    Spread S.next (issued e) o.state.next
spread_step seed S e i o (refusing code n) h = let P : List Issue → Type 0 = λ is. Spread S.next is S.next in
    subst P (sym (refused_issues e code n h (request_at e))) (let le : S.next ≤ S.next = omega arith in le)
spread_step seed S e i o (obeying request is ok) h =
    let row = used S e.locality request in
    let t = passed seed S e.locality request row ok in
    let P : List Issue → Type 0 = λ is. Spread S.next is (S.next + makes request) in
    subst P (sym (accepted_issues seed S e request i.random.0 is ok h)) (spread_made S e.locality e.random request row (fits S.next (makes request) t.serials))

pub spread_after : (seed : List ℕ) (S : State) (e : Entry) (es : List Entry) → LegalFrom seed S (e ∷ es) → Spread S.next (issued e) (after seed S e).next
spread_after seed S e es h = spread_step seed S e h.entries.0 (step seed S e.locality e.random e.payload) (each_step seed S e.locality e.random e.payload) (legal_head seed S e es h)

pub spread_all : (seed : List ℕ) (S : State) (es : List Entry) → LegalFrom seed S es → Spread S.next (all_issued es) (after_all seed S es).next
spread_all seed S [] h = omega arith
spread_all seed S (e ∷ es) h =
    spread_append S.next (after seed S e).next (after_all seed S (e ∷ es)).next (issued e) (all_issued es)
    (spread_after seed S e es h) (spread_all seed (after seed S e) es (legal_tail seed S e es h))

-- what is spread has no handle twice
from_spread : (lo hi n : ℕ) (is : List Issue) → n < lo → Spread lo is hi → All (λ i. n < serial i.0) is
from_spread lo hi n [] l h = All-nil (λ i. n < serial i.0)
from_spread lo hi n (i ∷ is) l h = let p = h.0 in All-cons (λ i. n < serial i.0) i is (omega arith) (from_spread (serial i.0 + 1) hi n is (omega arith) h.1)

pub differ_from_spread : (lo hi : ℕ) (is : List Issue) → Spread lo is hi → AllPairs (λ a b. a.0 ≢ b.0) is
differ_from_spread lo hi [] h = λ i j d l m e. omega arith
differ_from_spread lo hi (i ∷ is) h =
    AllPairs-cons (λ a b. a.0 ≢ b.0) i is
    (All-weaker (λ b. serial i.0 < serial b.0) (λ b. i.0 ≢ b.0) (λ b l e. let k = ap serial e in omega arith) is (from_spread (serial i.0 + 1) hi (serial i.0) is (omega arith) h.1))
    (differ_from_spread (serial i.0 + 1) hi is h.1)
