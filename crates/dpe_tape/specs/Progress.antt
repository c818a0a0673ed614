-- A load under way in the program.
use Rattle.std.specs.Prelude.{◌≤◌, List}
use Rattle.std.specs.List.{All}
use Rattle.dpe_model.specs.State.{Machine}
use Rattle.dpe_model.specs.Step.{Outcome}
use Rattle.dpe_tape.specs.Load.{Load, outcome_for}
use Rattle.dpe_tape.specs.StockView.{stock_of}
use Rattle.dpe_tape.specs.declared.pool.Pair.{Pair}
use Rattle.dpe_tape.specs.declared.load.Drawn.{Drawn}
use Rattle.dpe_tape.specs.declared.load.Progress.{Progress}
use Rattle.dpe_tape.specs.declared.stock.Stock as kept

abbrev pub load_of : Progress → Load
load_of p = record { begun = p.begun; number = p.draws.number; stock = stock_of p.stock; machine = p.core }

-- the step for a command that was drawn
abbrev pub outcome_of : Machine → kept.Stock → Drawn → Outcome
outcome_of M stock drawn = outcome_for M (stock_of stock) drawn.act drawn.random drawn.argument

-- every pair has a locality of a caller
abbrev pub AreNear : List Pair → Type 0
AreNear pool = All (λ p. p.locality ≤ 7) pool
