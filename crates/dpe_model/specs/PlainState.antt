-- What the state of the slow evaluator stands for, and what its tests of a box say.
use Rattle.std.specs.Prelude.{ℕ, List, Option}
use Rattle.std.specs.Borrow.{Bor}
use Rattle.std.specs.Option.{option_map}
use Rattle.dpe_messages.specs.Request.{Request}
use Rattle.dpe_box.specs.Sealed.{Opening}
use Rattle.dpe_model.specs.declared.rows.PlainRow.{PlainRow}
use Rattle.dpe_model.specs.declared.state.PlainState.{PlainState}
use Rattle.dpe_model.specs.declared.verdict.BoxTests.{BoxTests}
use Rattle.dpe_model.specs.State.{State, Row, mode}
use Rattle.dpe_model.specs.Verdict.{has, opening, is_malformed, is_refused, is_kept_from}
use Rattle.dpe_model.specs.Plain.{row_of, rows_of}

abbrev pub state_of : PlainState → State
state_of s = record { first = s.first; next = s.next; made = s.made; rows = rows_of s.rows.items }

-- a lent row, if there is one, without where it lies in memory
abbrev pub seen : Option (Bor PlainRow) → Option Row
seen row = option_map (λ r. row_of r.now) row

-- the three tests of an opening
abbrev pub box_tests : ℕ → ℕ → Opening → BoxTests
box_tests locality mode found = record { malformed = is_malformed found; refused = is_refused found; policy_refused = is_kept_from locality mode found }

-- the three tests of the box of a command, if it has one
abbrev pub box_tests_at : List ℕ → ℕ → Request → Option Row → BoxTests
box_tests_at seed locality request row = record {
  malformed = has row (λ r. has (opening seed request r) is_malformed);
  refused = has row (λ r. has (opening seed request r) is_refused);
  policy_refused = has row (λ r. has (opening seed request r) (is_kept_from locality (mode r)));
}
