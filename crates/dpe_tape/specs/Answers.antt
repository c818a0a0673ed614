-- What is answered to a tape.
use Rattle.std.specs.Prelude.{ℕ, List, [], ◌∷◌, ◌++◌}
use Rattle.dpe_messages.specs.Replies.{reply_payload}
use Rattle.dpe_model.specs.State.{Machine, start}
use Rattle.dpe_model.specs.Step.{step}
use Rattle.dpe_link.specs.Frames.{frame}
use Rattle.dpe_tape.specs.Tape.{Item}

-- the sequential DPE after an item, and the payload of its reply
pub record Answered : Type 0 where
  pub machine : Machine
  pub reply : List ℕ

abbrev pub step_of : Machine → Item → Answered
step_of M item =
    let outcome = step M.seed M.state item.locality item.random item.payload in
    record { machine = record { seed = M.seed; state = outcome.state }; reply = reply_payload outcome.reply }

-- the frames of the replies, one behind the other
abbrev pub answers : Machine → List Item → List ℕ
answers M [] = []
answers M (item ∷ items) = frame (step_of M item).reply ++ answers (step_of M item).machine items

-- the sequential DPE after the items
abbrev pub after : Machine → List Item → Machine
after M [] = M
after M (item ∷ items) = after (step_of M item).machine items

-- before any command
abbrev pub machine_at : List ℕ → ℕ → Machine
machine_at seed first = record { seed = seed; state = start first }

-- all that is written for a tape
abbrev pub batch : List ℕ → ℕ → List Item → List ℕ
batch seed first items = answers (machine_at seed first) items
