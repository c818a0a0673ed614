-- What a tally holds of some replies.
use Rattle.std.specs.Prelude.{◌≡◌, ℕ, ◌<◌, List, slice_index}
use Rattle.sha2.specs.Hashers.{Holds512}
use Rattle.dpe_messages.specs.Replies.{Response}
use Rattle.dpe_tape.specs.LoadText.{code_bound, count_of, reply_frames}
use Rattle.dpe_tape.specs.declared.tally.Tally.{Tally}

-- each count is that of the replies with its code
abbrev pub HasCounts : List ℕ → List Response → Type 0
HasCounts counts rs = (code : ℕ) → code < code_bound → slice_index counts code ≡ count_of code rs

pub record IsTally (tally : Tally) (rs : List Response) : Type 0 where
  pub counts : HasCounts tally.counts rs
  pub frames : Holds512 tally.frames (reply_frames rs)
