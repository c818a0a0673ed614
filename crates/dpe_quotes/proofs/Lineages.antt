-- The lineages of live contexts have at most 32 inputs, and each of them is one that a quote may hold.
use Rattle.std.proofs.Common.{◌≡◌, ℕ, ◌+◌, ◌≤◌, List, [], ◌∷◌, ◌++◌, refl, sym, subst, Bool, true, false, cond, nat_eq, Option, Some, None, IfSome, All, length, map, replicate, unwrap_or, arith, length-append}
use Rattle.std.specs.List.{AllByRecursion}
use Rattle.std.proofs.lemmas.Bool.Decides.{nat_tests}
use Rattle.std.proofs.lemmas.List.{length-map}
use Rattle.std.proofs.lemmas.List.Elements.{All-from_recursion}
use Rattle.sha2.proofs.Facts512.{length-sha512}
use Rattle.dpe_inputs.specs.declared.Input.{Input}
use Rattle.dpe_messages.specs.Request.{Configuration, inline, descriptor, Request, DeriveRequest, get_profile, initialize, derive, sign, seal, unseal, rotate, destroy}
use Rattle.dpe_messages.specs.Ranges.{InRanges, IsConfiguration, IsDerive}
use Rattle.dpe_messages.specs.Ranges as ranges
use Rattle.dpe_messages.proofs.AcceptedLemmas.{accepted_in_ranges}
use Rattle.dpe_model.specs.declared.lineage.Birth.{Birth}
use Rattle.dpe_model.specs.State.{Row, State, start, path}
use Rattle.dpe_model.specs.Verdict.{used}
use Rattle.dpe_model.specs.Step.{Outcome, done, step, rows_left, rows_made, again, renamed, new1, configuration_input, input_of}
use Rattle.dpe_model.specs.History.{Entry, after, after_all, state_after, path_of, path_at, is_accepted, request_at}
use Rattle.dpe_model.proofs.Accepted.{IsStep, refusing, obeying, each_step, Passed, passed}
use Rattle.dpe_model.proofs.Answered.{path_is}
use Rattle.dpe_model.proofs.Runs.{append_all}
use Rattle.dpe_model.proofs.Spent.{left_all, used_all}
use Rattle.dpe_quotes.specs.Quotes.{IsInput, depth_limit}

-- ## The input of a derivation

-- a configuration in its range is 64 bytes, or its digest is
length-configuration_input : (c : Configuration) → IsConfiguration c → length (configuration_input c) ≡ 64
length-configuration_input (inline b) h = h
length-configuration_input (descriptor b) h = length-sha512 b

length-hidden : (hidden : Option (List ℕ)) → IfSome hidden ranges.IsInput → length (unwrap_or hidden (replicate 64 0)) ≡ 64
length-hidden None h = refl
length-hidden (Some b) h = h

is_input : (d : DeriveRequest) → IsDerive d → IsInput (input_of d)
is_input d h = record {
  code = h.code;
  config = length-configuration_input d.config h.config;
  authority = h.authority;
  mode = h.mode;
  hidden = length-hidden d.hidden h.hidden;
}

-- ## The rows of a step

record IsShort (lineage : List Birth) : Type 0 where
  depth : length lineage ≤ 32
  inputs : AllByRecursion (λ birth. IsInput birth.input) lineage

abbrev IsShortRow : Row → Type 0
IsShortRow row = IsShort row.lineage

not_deep : (n : ℕ) → n ≤ 32 → nat_eq n 32 ≡ false → n + 1 ≤ 32
not_deep n h k = grind (arith, nat_tests)

short_child : (serial : ℕ) (input : Input) (lineage : List Birth) → IsInput input → nat_eq (length lineage) 32 ≡ false → IsShort lineage →
    IsShort (lineage ++ record { serial = serial; input = input } ∷ [])
short_child serial input lineage is shallow h =
    let birth : Birth = record { serial = serial; input = input } in
    record {
      depth = let room = not_deep (length lineage) h.depth shallow in omega (arith, length-append lineage (birth ∷ []));
      inputs = append_all (λ (b : Birth). IsInput b.input) lineage (birth ∷ []) h.inputs (is, tt);
    }

again_short : (S : State) (random : List ℕ) (row : Row) (retain : Bool) → IsShortRow row → AllByRecursion IsShortRow (again S random row retain)
again_short S random row true h = (h, tt)
again_short S random row false h = tt

retained_short : (row : Row) (handle : List ℕ) (retain : Bool) → IsShortRow row → AllByRecursion IsShortRow (cond retain (renamed row handle ∷ []) [])
retained_short row handle true h = (h, tt)
retained_short row handle false h = tt

-- the rows that an accepted command makes, of the row that it uses
made_short : (seed : List ℕ) (S : State) (l : ℕ) (random : List ℕ) (request : Request) (row : Row) → InRanges request → Passed seed S l request (Some row) → IsShortRow row →
    AllByRecursion IsShortRow (rows_made S l random request (Some row))
made_short seed S l random get_profile row r t h = tt
made_short seed S l random (initialize default) row r t h = tt
made_short seed S l random (derive d) row r t h =
    (short_child S.next (input_of d) row.lineage (is_input d r) t.shallow h, retained_short row (new1 S random) d.retain h)
made_short seed S l random (sign s) row r t h = again_short S random row s.retain h
made_short seed S l random (seal s) row r t h = again_short S random row s.retain h
made_short seed S l random (unseal u) row r t h = again_short S random row u.retain h
made_short seed S l random (rotate handle default) row r t h = (h, tt)
made_short seed S l random (destroy handle recursive) row r t h = tt

-- and where it uses none
made_of_none : (S : State) (l : ℕ) (random : List ℕ) (request : Request) → AllByRecursion IsShortRow (rows_made S l random request None)
made_of_none S l random get_profile = tt
made_of_none S l random (initialize default) = (record { depth = omega arith; inputs = tt }, tt)
made_of_none S l random (derive d) = tt
made_of_none S l random (sign s) = tt
made_of_none S l random (seal s) = tt
made_of_none S l random (unseal u) = tt
made_of_none S l random (rotate handle default) = tt
made_of_none S l random (destroy handle recursive) = tt

-- ## All live rows

abbrev AllShort : State → Type 0
AllShort S = AllByRecursion IsShortRow S.rows

short_done : (seed : List ℕ) (S : State) (l : ℕ) (random : List ℕ) (request : Request) (o : Option Row) → InRanges request → Passed seed S l request o → used S l request ≡ o →
    AllShort S → AllShort (done seed S l random request o).state
short_done seed S l random request None r t u h =
    append_all IsShortRow (rows_left request None S.rows) (rows_made S l random request None)
    (left_all IsShortRow request None S.rows h) (made_of_none S l random request)
short_done seed S l random request (Some row) r t u h =
    append_all IsShortRow (rows_left request (Some row) S.rows) (rows_made S l random request (Some row))
    (left_all IsShortRow request (Some row) S.rows h) (made_short seed S l random request row r t (used_all IsShortRow S l request row h u))

short_step : (seed : List ℕ) (S : State) (l : ℕ) (random payload : List ℕ) → AllShort S → (o : Outcome) → IsStep seed S l random payload o → AllShort o.state
short_step seed S l random payload h o (refusing code c) = h
short_step seed S l random payload h o (obeying request is ok) =
    short_done seed S l random request (used S l request) (accepted_in_ranges payload request is)
    (passed seed S l request (used S l request) ok) refl h

-- no step makes a lineage that is not
short_after : (seed : List ℕ) (S : State) (es : List Entry) → AllShort S → AllShort (after_all seed S es)
short_after seed S [] h = h
short_after seed S (e ∷ es) h =
    short_after seed (after seed S e) es
    (short_step seed S e.locality e.random e.payload h (step seed S e.locality e.random e.payload) (each_step seed S e.locality e.random e.payload))

-- ## The path at an entry

pub record IsQuotable (xs : List Input) : Type 0 where
  pub depth : length xs ≤ depth_limit
  pub inputs : All IsInput xs

inputs_of : (lineage : List Birth) → AllByRecursion (λ birth. IsInput birth.input) lineage → AllByRecursion IsInput (map (λ birth. birth.input) lineage)
inputs_of [] h = tt
inputs_of (birth ∷ lineage) h = (h.0, inputs_of lineage h.1)

quotable_row : (row : Row) → IsShortRow row → IsQuotable (path row)
quotable_row row h = record {
  depth = let short = h.depth in omega (arith, length-map row.lineage (λ (birth : Birth). birth.input));
  inputs = All-from_recursion IsInput (path row) (inputs_of row.lineage h.inputs);
}

no_inputs : IsQuotable []
no_inputs = record { depth = omega arith; inputs = All-from_recursion IsInput [] tt }

quotable_used : (S : State) (l : ℕ) (request : Request) (o : Option Row) → used S l request ≡ o → AllShort S → IsQuotable (path_of o)
quotable_used S l request None u h = no_inputs
quotable_used S l request (Some row) u h = quotable_row row (used_all IsShortRow S l request row h u)

pub quotable_at : (seed : List ℕ) (first : ℕ) (before : List Entry) (e : Entry) (request : Request) → is_accepted e ≡ true → request_at e ≡ Some request →
    IsQuotable (path_at (state_after seed first before) e)
quotable_at seed first before e request accepted asked =
    let S = state_after seed first before in
    subst IsQuotable (sym (path_is S e request (used S e.locality request) accepted asked refl))
    (quotable_used S e.locality request (used S e.locality request) refl (short_after seed (start first) before tt))
