-- Names, and the entries of each in a history.
use Rattle.std.proofs.Common.{◌≡◌, ◌≢◌, ℕ, zero, suc, ◌<◌, ◌≤◌, Bool, true, false, cond, List, [], ◌∷◌, refl, ap, sym, subst, ◌∙◌, arith, length, map}
use Rattle.std.specs.Prelude.{◌==◌, slice_index_or, AllPairs, Contains}
use Rattle.std.specs.List.{AllByRecursion}
use Rattle.std.proofs.lemmas.Bool.Decides.{nat_tests}
use native.Mathlib.Decide.{ℕ_discrete}
use Rattle.dpe_desk.specs.Entries.{made_by, times}
use Rattle.dpe_desk.specs.Passes.{LaterCallers}
use Rattle.dpe_model.specs.History.{Entry, entries_of_caller, entries_of_connection}
use Rattle.dpe_journal.specs.Shared.{Shared, shared_from, entry_in}
use Rattle.dpe_serve.specs.Gates.{AreNames}
use Rattle.dpe_connections.specs.Passes.{history_of}
use Rattle.dpe_connections.specs.Workers.{IsFrom}
use Rattle.dpe_connections.proofs.Calls.{of_caller, on_connection}

-- ## Different names

times_there : (xs : List ℕ) (i d : ℕ) → i < length xs → 0 < times (slice_index_or xs i d) xs
times_there [] i d lt = absurd (omega arith)
times_there (x ∷ xs) zero d lt =
    let same : (x == x) ≡ true = grind (arith, nat_tests) in
    let one : cond {A = ℕ} (x == x) 1 0 ≡ 1 = ap (λ (b : Bool). cond {A = ℕ} b 1 0) same in
    omega (arith, one)
times_there (x ∷ xs) (suc i) d lt = let h = times_there xs i d (omega arith) in omega (arith, h)

differ : (xs : List ℕ) → ((n : ℕ) → times n xs ≤ 1) → AllPairs (λ a b. a ≢ b) xs
differ [] h i j d lt below = absurd (omega arith)
differ (x ∷ xs) h i zero d lt below = absurd (omega arith)
differ (x ∷ xs) h zero (suc j) d lt below = λ same.
    let there : 0 < times x xs = subst (λ (m : ℕ). 0 < times m xs) (sym same) (times_there xs j d (omega arith)) in
    let test : (x == x) ≡ true = grind (arith, nat_tests) in
    let one : cond {A = ℕ} (x == x) 1 0 ≡ 1 = ap (λ (b : Bool). cond {A = ℕ} b 1 0) test in
    let most = h x in
    absurd (omega (arith, one, there, most))
differ (x ∷ xs) h (suc i) (suc j) d lt below = differ xs (λ n. let most = h n in omega (arith, most)) i j d (omega arith) (omega arith)

each_below : (xs : List ℕ) (limit : ℕ) → ((n : ℕ) → 0 < times n xs → n < limit) → AllByRecursion (λ name. name < limit) xs
each_below [] limit h = tt
each_below (x ∷ xs) limit h =
    let test : (x == x) ≡ true = grind (arith, nat_tests) in
    let one : cond {A = ℕ} (x == x) 1 0 ≡ 1 = ap (λ (b : Bool). cond {A = ℕ} b 1 0) test in
    (h x (omega (arith, one)), each_below xs limit (λ n some. h n (omega (arith, some))))

-- names behind a first one
pub are_names : (idle : ℕ) (names : List ℕ) → ((n : ℕ) → times n (idle ∷ names) ≤ 1) → ((n : ℕ) → 0 < times n (idle ∷ names) → n < 65536) → AreNames names
are_names idle names different small = record {
  below = each_below names 65536 (λ n some. small n (omega (arith, some)));
  differ = differ names (λ n. let most = different n in omega (arith, most));
}

contains_named : (n : ℕ) (ns : List ℕ) → 0 < times n ns → Contains ns n
contains_named n [] h = absurd (omega arith)
contains_named n (m ∷ ms) h = elim (ℕ_discrete m n) [
  | yes same ↦ (0, omega arith, same)
  | no other ↦ (
      let test : (m == n) ≡ false = grind (arith, nat_tests) in
      let none : cond {A = ℕ} (m == n) 1 0 ≡ 0 = ap (λ (b : Bool). cond {A = ℕ} b 1 0) test in
      let r = contains_named n ms (omega (arith, none, h)) in
      (suc r.0, (let lt = r.1 in omega (arith, lt)), r.2))
]

-- ## Entries of a caller

-- the calls of one caller alone
pub made_alone : (name locality connections : ℕ) (calls : List Shared) → AllByRecursion (IsFrom name locality connections) (history_of calls) → made_by name calls ≡ calls
made_alone name locality connections [] h = refl
made_alone name locality connections (call ∷ calls) h =
    let test : (call.caller == name) ≡ true = same_caller call.caller name h.0.caller_is in
    ap (λ (b : Bool). cond b (call ∷ made_by name calls) (made_by name calls)) test ∙ ap (λ (more : List Shared). call ∷ more) (made_alone name locality connections calls h.1)
  where
    same_caller : (a b : ℕ) → a ≡ b → (a == b) ≡ true
    same_caller a b e = grind (arith, nat_tests)

pub same_history : (H : List Entry) → history_of (map shared_from H) ≡ H
same_history [] = refl
same_history (e ∷ es) = ap (λ (more : List Entry). e ∷ more) (same_history es)

caller_of : (name : ℕ) (calls : List Shared) → entries_of_caller (history_of calls) name ≡ history_of (made_by name calls)
caller_of name [] = refl
caller_of name (call ∷ calls) =
    let h = caller_of name calls in
    elim (call.caller == name) as (λ b. cond b (entry_in call ∷ entries_of_caller (history_of calls) name) (entries_of_caller (history_of calls) name) ≡ history_of (cond b (call ∷ made_by name calls) (made_by name calls)))
    [ true ↦ ap (λ (more : List Entry). entry_in call ∷ more) h | false ↦ h ]

-- what the history has of a caller and of one of its connections, where this is all that the caller made
pub of_name : (name : ℕ) (H : List Entry) (made : List Shared) → made_by name (map shared_from H) ≡ made → entries_of_caller H name ≡ history_of made
of_name name H made same =
    ap (λ (es : List Entry). entries_of_caller es name) (sym (same_history H)) ∙ (caller_of name (map shared_from H) ∙ ap history_of same)

pub on_number : (name connection : ℕ) (H : List Entry) (made : List Shared) → made_by name (map shared_from H) ≡ made → made_by name made ≡ made
    → entries_of_connection H name connection ≡ entries_of_connection (history_of made) name connection
on_number name connection H made same alone =
    ap (λ (es : List Entry). entries_of_connection es name connection) (sym (same_history H))
    ∙ (of_caller name connection (map shared_from H)
    ∙ (ap (λ (calls : List Shared). on_connection connection (history_of calls)) (same ∙ sym alone)
    ∙ sym (of_caller name connection made)))

-- each entry has one of the names as its caller, if the first has none
pub callers_named : (idle : ℕ) (names : List ℕ) (H : List Entry) → made_by idle (map shared_from H) ≡ [] → LaterCallers [] (idle ∷ names) (map shared_from H)
    → AllByRecursion (λ e. Contains names e.caller) H
callers_named idle names [] none later = tt
callers_named idle names (e ∷ es) none later =
    let more = callers_named idle names es in
    elim (ℕ_discrete e.caller idle) [
      | yes same ↦ (
          let test : (e.caller == idle) ≡ true = grind (arith, nat_tests) in
          let some : shared_from e ∷ made_by idle (map shared_from es) ≡ [] =
          sym (ap (λ (b : Bool). cond b (shared_from e ∷ made_by idle (map shared_from es)) (made_by idle (map shared_from es))) test) ∙ none in
          absurd (cc some))
      | no other ↦ (
          let test : (e.caller == idle) ≡ false = grind (arith, nat_tests) in
          let turned : (idle == e.caller) ≡ false = grind (arith, nat_tests) in
          let zero_first : cond {A = ℕ} (idle == e.caller) 1 0 ≡ 0 = ap (λ (b : Bool). cond {A = ℕ} b 1 0) turned in
          let none_later : made_by idle (map shared_from es) ≡ [] =
          sym (ap (λ (b : Bool). cond b (shared_from e ∷ made_by idle (map shared_from es)) (made_by idle (map shared_from es))) test) ∙ none in
          let first = later 0 (shared_from e) (omega arith) refl in
          (contains_named e.caller names (omega (arith, zero_first, first)), more none_later (λ k f at is. later (suc k) f (omega arith) is)))
    ]
