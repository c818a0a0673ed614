use Rattle.std.proofs.Common.{◌≡◌}
use Rattle.dpe_tape.specs.Load.{load_at, load_after, replies}
use Rattle.dpe_tape.specs.Progress.{load_of}
use Rattle.dpe_tape.specs.Tally.{IsTally}
use Rattle.dpe_tape.proofs.load.text_of_load.Given as goal

-- the load after the commands so far, and the tally of their replies
abbrev pub invariant-loop-place : goal.invariant-loop-place
invariant-loop-place l =
    (load_of l.progress ≡ load_after l._place (load_at l.load.number))
    × IsTally l.tally (replies l._place (load_at l.load.number))
