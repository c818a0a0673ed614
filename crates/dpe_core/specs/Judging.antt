-- The tests of commands that use a context, where the others can't hold.
use Rattle.std.specs.Prelude.{ℕ, ◌+◌, ◌≡◌, ◌==◌, take, List, [], ◌∷◌, ◌++◌, Bool, false, not, ◌&&◌, nat_lt, length, Option, Some, None, Result, Ok, Err, is_none, is_some, if◌then◌else◌}
use Rattle.dpe_box.specs.Sealed.{Opening}
use Rattle.dpe_messages.specs.Replies.{context_limit, depth_limit}
use Rattle.dpe_messages.specs.Request.{DeriveRequest, locality_or}
use Rattle.dpe_model.specs.State.{Row, State, depth, last_serial}
use Rattle.dpe_model.specs.Step.{text_of}
use Rattle.dpe_model.specs.Verdict.{has, is_taken, is_malformed, is_refused, is_kept_from}
use Rattle.dpe_model.specs.Codes as code

-- the code in an answer that refuses
abbrev pub refused_by : Result ℕ ℕ → Option ℕ
refused_by (Ok at) = None
refused_by (Err code) = Some code

-- that the context lives, which is named or the default, and is bound to the caller's locality
abbrev pub owner_tests : ℕ → Option (List ℕ) → Option Row → List (Bool × ℕ)
owner_tests locality name row =
    (is_none row && is_some name, code.no_such_handle)
    ∷ (is_none row && is_none name, code.no_default)
    ∷ (has row (λ r. not (r.locality == locality)), code.wrong_locality)
    ∷ []

-- that serials are left for k handles
abbrev pub serial_test : State → ℕ → Bool × ℕ
serial_test S k = (nat_lt last_serial (S.next + k), code.serials_spent)

abbrev pub use_tests : State → ℕ → ℕ → Option (List ℕ) → Option Row → List (Bool × ℕ)
use_tests S locality k name row = owner_tests locality name row ++ serial_test S k ∷ []

-- that a context may be derived from, isn't the deepest, that there is room, and no other default beside the child
abbrev pub derive_tests : State → ℕ → DeriveRequest → Row → List (Bool × ℕ)
derive_tests S locality d row =
    (not row.may_derive, code.derive_not_allowed)
    ∷ (depth row == depth_limit, code.too_deep)
    ∷ (d.retain && length S.rows == context_limit, code.contexts_full)
    ∷ (d.child_default && is_taken S.rows d.retain row (locality_or locality d), code.default_taken)
    ∷ serial_test S (if d.retain then 2 else 1)
    ∷ []

-- that there is no other default where the context is to be one, and that a serial is left
abbrev pub rotate_tests : State → Bool → Row → List (Bool × ℕ)
rotate_tests S default row =
    (default && is_taken S.rows false row row.locality, code.default_taken) ∷ serial_test S 1 ∷ []

-- that a box has its form and its tag, and admits the locality and the mode
abbrev pub box_tests : ℕ → ℕ → Opening → List (Bool × ℕ)
box_tests locality mode found =
    (is_malformed found, code.box_malformed)
    ∷ (is_refused found, code.box_refused)
    ∷ (is_kept_from locality mode found, code.policy_refused)
    ∷ []

-- the first n bytes are the text of a box that opens
abbrev pub IsText : Opening → List ℕ → ℕ → Type 0
IsText found bytes n = take n bytes ≡ text_of found
