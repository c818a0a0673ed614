use Rattle.std.proofs.Common.{◌≡◌, take}
use Rattle.dpe_serve.specs.Summary.{refused_of}
use Rattle.dpe_serve.proofs.summary.count_refused.Given as goal

-- the refused entries so far
abbrev pub invariant-loop-at : goal.invariant-loop-at
invariant-loop-at l = l.refused ≡ refused_of (take l.at l.book.history)
