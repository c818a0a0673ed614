use Rattle.std.proofs.Common.{◌≡◌, ◌++◌, List, string_bytes}
use Rattle.dpe_messages.specs.Replies.{Response}
use Rattle.dpe_tape.specs.LoadText.{code_lines}
use Rattle.dpe_tape.specs.Tally.{HasCounts}
use Rattle.dpe_tape.proofs.tally.push_codes.Given as goal

-- the lines of the codes so far stand behind the text
abbrev pub invariant-loop-code : goal.invariant-loop-code
invariant-loop-code l =
    (rs : List Response) → HasCounts l.counts rs → string_bytes l.text ≡ string_bytes l.initial.text ++ code_lines l.code rs
