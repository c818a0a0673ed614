-- Boxes of a version, and what a stage makes of one.
use Rattle.std.specs.Prelude.{◌≡◌, ℕ, ◌<◌, Bool, true, ◌==◌, ◌&&◌, nat_le, nat_lt, if◌then◌else◌, List, [], ◌∷◌, ◌++◌, length, drop, slice_index, Result, Ok, Err}
use Rattle.std.specs.Int.{w16, to_be_bytes, from_be_bytes}
use Rattle.dpe_box.specs.declared.policy.Policy.{Policy}
use Rattle.dpe_box.specs.Sealed.{sealed_box, has_form, admits, Opening, opened}
use Rattle.dpe_box.specs.Sealed as boxes
use Rattle.dpe_ratchets.specs.declared.stage.RatchetFault.{RatchetFault}
use Rattle.dpe_ratchets.specs.declared.stage.RatchetFault.TheVariants as faults
use Rattle.dpe_ratchets.specs.Keys.{ratchet_key}

-- 2, the version in two bytes, and a box under the key of that version
abbrev pub versioned_box : List ℕ → ℕ → List ℕ → Policy → List ℕ → List ℕ → List ℕ
versioned_box cdi v label masks salt text = 2 ∷ to_be_bytes w16 v ++ sealed_box (ratchet_key cdi v) label masks salt text

-- the parts of such a list b
abbrev pub version_in : List ℕ → ℕ
version_in b = from_be_bytes w16 (drop 1 b)

abbrev pub box_in : List ℕ → List ℕ
box_in b = drop 3 b

-- 2, a version of at most 1,024, and a list with the form of a box
abbrev pub is_versioned : List ℕ → Bool
is_versioned b = (slice_index b 0 == 2) && nat_le (version_in b) 1024 && has_form (box_in b)

-- it is one, of this version, which is above the stage's
pub record IsTooNew (own : ℕ) (b : List ℕ) (v : ℕ) : Type 0 where
  pub form : is_versioned b ≡ true
  pub version : v ≡ version_in b
  pub above : own < v

-- What a stage answers.
pub data Answer : Type 0 where
  malformed : Answer
  too_new : ℕ → Answer
  refused : Answer
  policy_refused : Answer
  gives : List ℕ → Answer

-- for a locality and a mode, by what the box opens to
abbrev pub by_opening : Opening → ℕ → ℕ → Answer
by_opening boxes.malformed locality mode = malformed
by_opening boxes.refused locality mode = refused
by_opening (boxes.opened_as masks text) locality mode = if admits masks locality mode then gives text else policy_refused

-- malformed without the form, else too new where the version is above the stage's, else what the box gives under the
-- key of its version
abbrev pub answer : List ℕ → ℕ → List ℕ → ℕ → ℕ → List ℕ → Answer
answer cdi own label locality mode b =
    if is_versioned b then
    (if nat_lt own (version_in b) then too_new (version_in b)
    else by_opening (opened (ratchet_key cdi (version_in b)) label (box_in b)) locality mode)
    else malformed

-- the answer as a result, and the data that it gives
abbrev pub result_of : Answer → Result ℕ RatchetFault
result_of malformed = Err faults.Malformed
result_of (too_new v) = Err (faults.TooNew v)
result_of refused = Err faults.Refused
result_of policy_refused = Err faults.PolicyRefused
result_of (gives text) = Ok (length text)

abbrev pub data_of : Answer → List ℕ
data_of malformed = []
data_of (too_new v) = []
data_of refused = []
data_of policy_refused = []
data_of (gives text) = text
