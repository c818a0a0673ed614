use Rattle.std.proofs.Common.{List, [], ◌∷◌}
use Rattle.dpe_model.specs.State.{Machine, Valid}
use Rattle.dpe_model.proofs.ValidStep.{stays_valid, valid_start}
use Rattle.dpe_tape.specs.Answers.{step_of, after, machine_at}
use Rattle.dpe_tape.specs.Tape.{Item, AreItems}
use Rattle.dpe_tape.proofs.law.state_stays_valid.Goals as goal

valid_after : (M : Machine) (items : List Item) → AreItems items → Valid M.state → Valid (after M items).state
valid_after M [] are v = v
valid_after M (item ∷ items) are v =
    valid_after (step_of M item).machine items are.1 (stays_valid M.seed M.state item.locality item.random item.payload are.0.near are.0.random v)

pub returns : goal.returns
returns c seed first items below tape = valid_after (machine_at seed first) items tape.each (valid_start first below)
