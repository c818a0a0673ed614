-- The state that an executor stands for, and what it is to obey a command.
use Rattle.std.specs.Prelude.{ℕ, ◌+◌, ◌≡◌, List, [], ◌∷◌, ◌++◌, Bool, Option, None, if◌then◌else◌}
use Rattle.dpe_box.specs.Sealed.{Opening, opened, sealed_box}
use Rattle.dpe_core.specs.declared.state.CoreState.{CoreState}
use Rattle.dpe_core.specs.Folds.{folds, metered}
use Rattle.dpe_core.specs.Judging.{box_tests}
use Rattle.dpe_inputs.specs.Cdi.{seal_cdi}
use Rattle.dpe_messages.specs.Request.{Request, SealRequest, UnsealRequest}
use Rattle.dpe_model.specs.State.{State, Row, Machine, path, mode}
use Rattle.dpe_model.specs.Step.{Outcome, obeyed, taken_out, again, marked, renamed, new0, masks_of, salt_of, IsReply}
use Rattle.dpe_model.specs.Verdict.{first_code, verdict}

abbrev pub state_of : CoreState → State
state_of core = record { first = core.first; next = core.next; made = core.made; rows = core.contexts.rows }

abbrev pub machine_of : CoreState → Machine
machine_of core = record { seed = core.contexts.seed; state = state_of core }

-- the seed stays, and this is the state
abbrev pub Becomes : CoreState → CoreState → State → Type 0
Becomes old new S = machine_of new ≡ record { seed = old.contexts.seed; state = S }

-- the state is that of the outcome, and the payload of its reply stands in the first n bytes
abbrev pub Comes : CoreState → CoreState → Outcome → List ℕ → ℕ → Type 0
Comes old new outcome bytes n = Becomes old new outcome.state × IsReply bytes n outcome

-- no test refuses the command
abbrev pub IsAccepted : CoreState → ℕ → Request → Type 0
IsAccepted core locality request = verdict core.contexts.seed (state_of core) locality request ≡ None

-- the row taken out, and again under the first new handle where it is retained
abbrev pub spent : State → List ℕ → Row → Bool → State
spent S random row retain = record {
  first = S.first;
  next = S.next + (if retain then 1 else 0);
  made = S.made;
  rows = taken_out row S.rows ++ again S random row retain;
}

-- the row taken out, and again under the first new handle, as a default of its locality or as none
abbrev pub rotated : State → List ℕ → Row → Bool → State
rotated S random row default = record {
  first = S.first;
  next = S.next + 1;
  made = S.made;
  rows = taken_out row S.rows ++ marked (renamed row (new0 S random)) default ∷ [];
}

-- a command of a caller at a locality is refused or executed, as the sequential DPE does it
abbrev pub Obeys : CoreState → CoreState → ℕ → List ℕ → Request → List ℕ → ℕ → Type 0
Obeys old new locality random request bytes n =
    Comes old new (obeyed old.contexts.seed (state_of old) locality random request) bytes n

-- a count after a command, which counts one fold where it is an accepted DeriveContext
abbrev pub count_after : CoreState → ℕ → Request → ℕ → ℕ
count_after core locality request n = metered n (folds core.contexts.seed (state_of core) locality request)

-- the box that a Seal asks for, under the sealing CDI of a row
abbrev pub box_of : CoreState → List ℕ → SealRequest → Row → List ℕ
box_of core random s row =
    sealed_box (seal_cdi core.contexts.seed (path row)) s.label (masks_of s) (salt_of random) s.plain

-- what the box in an Unseal gives, under the sealing CDI of a row
abbrev pub opened_by : CoreState → UnsealRequest → Row → Opening
opened_by core u row = opened (seal_cdi core.contexts.seed (path row)) u.label u.sealed

-- the code of the first test of that box that fails
abbrev pub box_code : CoreState → ℕ → UnsealRequest → Row → Option ℕ
box_code core locality u row = first_code (box_tests locality (mode row) (opened_by core u row))
