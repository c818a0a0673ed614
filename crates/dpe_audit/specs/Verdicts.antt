-- What is told of a legal history.
use Rattle.std.specs.Prelude.{ℕ, List, length}
use Rattle.dpe_model.specs.State.{Machine}
use Rattle.dpe_audit.specs.Mode.{Mode, check, live}
use Rattle.dpe_audit.specs.Printed.{count_text, live_text}
use Rattle.dpe_audit.specs.declared.verdict.View.{View}
use Rattle.dpe_audit.specs.declared.verdict.View.TheVariants.{Counts, Contexts}
use Rattle.dpe_audit.specs.declared.judging.Tally.{Tally}

abbrev pub mode_of : View → Mode
mode_of Counts = check
mode_of Contexts = live

-- how many entries there are, were refused and contexts live; or the contexts that live
abbrev pub verdict_text : View → Machine → Tally → List ℕ
verdict_text Counts M tally = count_text tally.entries tally.refused (length M.state.rows)
verdict_text Contexts M tally = live_text M.state.rows
