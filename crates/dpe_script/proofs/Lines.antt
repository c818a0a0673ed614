-- One line of the loop over the lines, and how it stops there.
use Rattle.std.proofs.Common.{◌≡◌, ℕ, ◌+◌, ◌<◌, ◌≤◌, List, length, drop, get_or, Option, ap, subst, ◌∙◌, arith}
use Rattle.std.proofs.lemmas.List.{drop_all}
use Rattle.std.specs.Io.KnownBytes.{Appends}
use Rattle.dpe_script.specs.Script.{Line}
use Rattle.dpe_script.specs.CodeScript.{line_of, lines_are}
use Rattle.dpe_script.specs.declared.script.Line as code_line
use Rattle.dpe_script.specs.CodeValues.{values_of, IsReady}
use Rattle.dpe_script.specs.declared.values.Values as code_values
use Rattle.dpe_script.specs.declared.run.Cause.{Cause}
use Rattle.dpe_io.specs.Told.{Told, KeepsCounts}
use Rattle.dpe_script.specs.Run.{Exchanges, Fails, CausedBy, RunsWhole, Stops, RunCausedBy}
use Rattle.dpe_script.proofs.Running.{IsGoing, IsRunning, some_of, running_done, running_at, next_running, running_stops, kept_more, stopped_by}

pub still_below : (a n m : ℕ) → a < n → m ≡ n → a < m
still_below a n m lt e = omega arith

-- behind the last line
pub going_done : {L : Type 0} (told : L → Told) (all : List Line) (lines : List code_line.Line) (at : ℕ) (old now : List L) (x0 x1 : Option (List ℕ)) (f0 f1 : ℕ) (before values : code_values.Values)
    → length lines ≤ at → IsGoing told all (lines_are (drop at lines)) old now x0 x1 f0 f1 before values → RunsWhole told all old now x0 x1
going_done told all lines at old now x0 x1 f0 f1 before values end i =
    running_done told all old now x0 x1 (values_of values) (subst (λ (rest : List Line). IsRunning told all rest old now x0 x1 (values_of values)) (ap lines_are (drop_all at lines end)) i.running)

module _ {L : Type 0} (told : L → Told) (all : List Line) (lines : List code_line.Line) (at : ℕ) (d : code_line.Line) (old now new : List L) (x0 x1 x2 : Option (List ℕ)) (f0 f1 f2 : ℕ)
    (before values next : code_values.Values) (lt : at < length lines) (i : IsGoing told all (lines_are (drop at lines)) old now x0 x1 f0 f1 before values)
    (within : (get_or lines at d).link < length now) (size : length new ≡ length now)
    (others : (k : ℕ) (e : L) → ((get_or lines at d).link ≡ k → ⊥) → get_or new k e ≡ get_or now k e) where
  abbrev line : code_line.Line
  line = get_or lines at d

  pub going_on : ((e : L) → Exchanges (line_of line) Appends (values_of values) (values_of next) (told (get_or now line.link e)) (told (get_or new line.link e)) x1 x2)
      → ((e : L) → KeepsCounts (told (get_or now line.link e)) (told (get_or new line.link e)) × (f2 ≡ f1)) → IsReady next → next.names ≡ values.names
      → IsGoing told all (lines_are (drop (at + 1) lines)) old new x0 x2 f0 f2 before next
  going_on done counts ready names = record {
    running =
        next_running told all (lines_are (drop (at + 1) lines)) (line_of line) old now new x0 x1 x2 (values_of values) (values_of next)
        (running_at told all lines at d old now x0 x1 (values_of values) lt i.running) within size others done;
    kept = kept_more told old now new line.link i.kept within i.size others (λ e. (counts e).0);
    out = (counts (some_of now line.link within)).1 ∙ i.out;
    ready = ready;
    names = names ∙ i.names;
    size = size ∙ i.size;
  }

  pub going_stops : (cause : Cause) → ((e : L) → CausedBy cause (told (get_or now line.link e)) (told (get_or new line.link e)) f1 f2) → ((e : L) → Fails cause (line_of line) (values_of values) (values_of next) (told (get_or now line.link e)) (told (get_or new line.link e)) x1 x2)
      → Stops told all old new x0 x2 cause line.number
  going_stops cause caused fails =
      running_stops told all (lines_are (drop (at + 1) lines)) (line_of line) old now new x0 x1 x2 (values_of values) (values_of next)
      (running_at told all lines at d old now x0 x1 (values_of values) lt i.running) within size others i.size i.kept f1 f2 cause caused fails

  pub going_caused : (cause : Cause) → ((e : L) → CausedBy cause (told (get_or now line.link e)) (told (get_or new line.link e)) f1 f2) → RunCausedBy told cause old new f0 f2
  going_caused cause caused = stopped_by told old now new line.link i.kept within i.size others f0 f1 f2 cause i.out caused
