-- The entries of one connection, in what a pass has seen and in what it made.
use Rattle.std.proofs.Common.{◌≡◌, ℕ, Bool, true, false, cond, List, [], ◌∷◌, ◌++◌, refl, sym, ap, ◌∙◌, map, arith}
use Rattle.std.specs.Prelude.{filter, ◌==◌, ◌&&◌}
use Rattle.std.specs.List.{AllByRecursion}
use Rattle.std.proofs.lemmas.Bool.Decides.{nat_tests}
use Rattle.std.proofs.lemmas.List.Elements.{filter-append}
use Rattle.dpe_desk.specs.Entries.{made_by}
use Rattle.dpe_model.specs.History.{Entry, entries_of_connection}
use Rattle.dpe_journal.specs.Shared.{Shared, entry_in}
use Rattle.dpe_connections.specs.Passes.{history_of}
use Rattle.dpe_connections.specs.ServedBy.{IsOn}

abbrev pub on_connection : ℕ → List Entry → List Entry
on_connection connection entries = filter (λ (e : Entry). e.connection == connection) entries

-- by whether the first call is the caller's, and whether its connection is this
one_call : (a b : Bool) (call : Shared) (connection : ℕ) (found : List Entry) (calls : List Shared) → (call.call.connection == connection) ≡ b
    → found ≡ on_connection connection (map entry_in calls)
    → cond (a && b) (entry_in call ∷ found) found ≡ on_connection connection (map entry_in (cond a (call ∷ calls) calls))
one_call false b call connection found calls is h = h
one_call true true call connection found calls is h =
    ap (λ (es : List Entry). entry_in call ∷ es) h
    ∙ ap (λ (t : Bool). cond t (entry_in call ∷ on_connection connection (map entry_in calls)) (on_connection connection (map entry_in calls))) (sym is)
one_call true false call connection found calls is h =
    h ∙ ap (λ (t : Bool). cond t (entry_in call ∷ on_connection connection (map entry_in calls)) (on_connection connection (map entry_in calls))) (sym is)

-- the entries of a connection stand among those of its caller
pub of_caller : (caller connection : ℕ) (calls : List Shared) → entries_of_connection (history_of calls) caller connection ≡ on_connection connection (history_of (made_by caller calls))
of_caller caller connection [] = refl
of_caller caller connection (call ∷ calls) =
    one_call (call.caller == caller) (call.call.connection == connection) call connection (entries_of_connection (history_of calls) caller connection) (made_by caller calls) refl (of_caller caller connection calls)

-- all entries of a connection are found
pub all_found : (caller connection : ℕ) (entries : List Entry) → AllByRecursion (IsOn caller connection) entries → entries_of_connection entries caller connection ≡ entries
all_found caller connection [] ours = refl
all_found caller connection (e ∷ es) ours =
    let test : ((e.caller == caller) && (e.connection == connection)) ≡ true = found e.caller e.connection ours.0.0 ours.0.1 in
    ap (λ (t : Bool). cond t (e ∷ entries_of_connection es caller connection) (entries_of_connection es caller connection)) test
    ∙ ap (λ (xs : List Entry). e ∷ xs) (all_found caller connection es ours.1)
  where
    found : (a b : ℕ) → a ≡ caller → b ≡ connection → ((a == caller) && (b == connection)) ≡ true
    found a b h k = grind (arith, nat_tests)

-- The pass made just these entries on the connection, and none before. So they are all that it has seen of it.
pub all_seen : (caller connection : ℕ) (seen made : List Shared) (before entries : List Entry) → made_by caller seen ≡ made_by caller made → history_of made ≡ before ++ entries
    → entries_of_connection before caller connection ≡ [] → AllByRecursion (IsOn caller connection) entries
    → entries_of_connection (history_of seen) caller connection ≡ entries
all_seen caller connection seen made before entries own grown unused ours =
    let P : Entry → Bool = λ (e : Entry). (e.caller == caller) && (e.connection == connection) in
    of_caller caller connection seen
    ∙ (ap (λ (calls : List Shared). on_connection connection (history_of calls)) own
    ∙ (sym (of_caller caller connection made)
    ∙ (ap (λ (H : List Entry). entries_of_connection H caller connection) grown
    ∙ (filter-append P before entries
    ∙ (ap (λ (es : List Entry). es ++ entries_of_connection entries caller connection) unused
    ∙ all_found caller connection entries ours)))))
