-- Whether a command is accepted in a state, and if not, by which code it is refused.
use Rattle.std.specs.Prelude.{ℕ, ◌+◌, ◌==◌, List, [], ◌∷◌, Bool, true, false, not, ◌&&◌, ◌||◌, nat_lt, length, find, Option, Some, None, is_some, is_none, if◌then◌else◌}
use Rattle.std.specs.List.{list_any}
use Rattle.std.specs.Str.{bytes_eq}
use Rattle.dpe_messages.specs.Request.{Request, get_profile, initialize, derive, sign, seal, unseal, rotate, destroy, locality_or}
use Rattle.dpe_messages.specs.Replies.{context_limit, depth_limit}
use Rattle.dpe_inputs.specs.Cdi.{seal_cdi}
use Rattle.dpe_box.specs.Sealed as boxes
use Rattle.dpe_model.specs.State.{Row, State, path, depth, mode, last_serial}
use Rattle.dpe_model.specs.Codes as code

-- ## What a command asks

-- the handle that a command names
abbrev pub named : Request → Option (List ℕ)
named get_profile = None
named (initialize default) = None
named (derive d) = d.handle
named (sign s) = s.handle
named (seal s) = s.handle
named (unseal u) = u.handle
named (rotate handle default) = handle
named (destroy handle recursive) = handle

-- the commands that use a context: all but GetProfile and InitializeContext
abbrev pub uses_row : Request → Bool
uses_row get_profile = false
uses_row (initialize default) = false
uses_row request = true

-- how many handles a command makes
abbrev pub makes : Request → ℕ
makes get_profile = 0
makes (initialize default) = 1
makes (derive d) = if d.retain then 2 else 1
makes (sign s) = if s.retain then 1 else 0
makes (seal s) = if s.retain then 1 else 0
makes (unseal u) = if u.retain then 1 else 0
makes (rotate handle default) = 1
makes (destroy handle recursive) = 0

abbrev pub initializes : Request → Bool
initializes (initialize default) = true
initializes request = false

abbrev pub derives : Request → Bool
derives (derive d) = true
derives request = false

abbrev pub retains_parent : Request → Bool
retains_parent (derive d) = d.retain
retains_parent request = false

-- the row is the default of this locality
abbrev pub is_default_of : ℕ → Row → Bool
is_default_of locality row = row.default && row.locality == locality

-- the row with this handle, or where there is no handle the default of the locality
abbrev pub row_for : List Row → ℕ → Option (List ℕ) → Option Row
row_for rows locality (Some handle) = find (λ row. bytes_eq row.handle handle) rows
row_for rows locality None = find (is_default_of locality) rows

-- The live row that a command at a locality uses: the one with the handle that it names, or, where it names
-- none, the default of the caller's locality. The tests and the effect of the command take it from here.
abbrev pub used : State → ℕ → Request → Option Row
used S locality request = if uses_row request then row_for S.rows locality (named request) else None

-- what an Unseal finds its box to be, under the sealing CDI of the row
abbrev pub opening : List ℕ → Request → Row → Option boxes.Opening
opening seed (unseal u) row = Some (boxes.opened (seal_cdi seed (path row)) u.label u.sealed)
opening seed request row = None

abbrev pub is_malformed : boxes.Opening → Bool
is_malformed boxes.malformed = true
is_malformed found = false

abbrev pub is_refused : boxes.Opening → Bool
is_refused boxes.refused = true
is_refused found = false

-- a mask of the box lacks this locality or this mode
abbrev pub is_kept_from : ℕ → ℕ → boxes.Opening → Bool
is_kept_from locality mode (boxes.opened_as masks text) = not (boxes.admits masks locality mode)
is_kept_from locality mode found = false

-- the locality whose default the command is to make, if it is to make one: its child, or the row itself
abbrev pub to_mark : ℕ → Request → Row → Option ℕ
to_mark locality (derive d) row = if d.child_default then Some (locality_or locality d) else None
to_mark locality (rotate handle default) row = if default then Some row.locality else None
to_mark locality request row = None

-- Another row is the default of this locality; or the used row is, where it stays beside its child.
abbrev pub is_taken : List Row → Bool → Row → ℕ → Bool
is_taken rows stays row at =
    list_any (λ other. not (bytes_eq other.handle row.handle) && is_default_of at other) rows
    || stays && is_default_of at row

-- ## The tests

-- there is something, and the test holds of it
abbrev pub has : {X : Type 0} → Option X → (X → Bool) → Bool
has None test = false
has (Some x) test = test x

-- A command is refused by the code of the first of these tests that holds.
abbrev pub tests : List ℕ → State → ℕ → Request → Option Row → List (Bool × ℕ)
tests seed S locality request row =
    (initializes request && not (locality == 0), code.root_locality)
    ∷ (initializes request && S.made, code.seed_locked)
    ∷ (is_none row && is_some (named request), code.no_such_handle)
    ∷ (is_none row && uses_row request && is_none (named request), code.no_default)
    ∷ (has row (λ r. not (r.locality == locality)), code.wrong_locality)
    ∷ (derives request && has row (λ r. not r.may_derive), code.derive_not_allowed)
    ∷ (derives request && has row (λ r. depth r == depth_limit), code.too_deep)
    ∷ (retains_parent request && length S.rows == context_limit, code.contexts_full)
    ∷ (has row (λ r. has (to_mark locality request r) (is_taken S.rows (retains_parent request) r)), code.default_taken)
    ∷ (nat_lt last_serial (S.next + makes request), code.serials_spent)
    ∷ (has row (λ r. has (opening seed request r) is_malformed), code.box_malformed)
    ∷ (has row (λ r. has (opening seed request r) is_refused), code.box_refused)
    ∷ (has row (λ r. has (opening seed request r) (is_kept_from locality (mode r))), code.policy_refused)
    ∷ []

-- the code of the first test that holds
abbrev pub first_code : List (Bool × ℕ) → Option ℕ
first_code [] = None
first_code (test ∷ tests) = if test.0 then Some test.1 else first_code tests

-- The code by which a command is refused. Where there is none, it is accepted.
abbrev pub verdict : List ℕ → State → ℕ → Request → Option ℕ
verdict seed S locality request = first_code (tests seed S locality request (used S locality request))
