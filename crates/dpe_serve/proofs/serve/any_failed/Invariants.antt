use Rattle.std.proofs.Common.{◌≡◌, false, take}
use Rattle.std.specs.List.{list_any}
use Rattle.dpe_serve.proofs.serve.any_failed.Given as goal

-- no door of the posts so far failed
abbrev pub invariant-loop-post : goal.invariant-loop-post
invariant-loop-post g l = list_any (λ p. p.tally.door_failed) (take l.post-index l.posts) ≡ false
