use Rattle.dpe_unix.proofs.Limits.{no_limit}
use Rattle.dpe_unix.proofs.limit.limit_of.Goals as goal

pub returns-then-seconds-eq0-clause-none : goal.returns-then-seconds-eq0-clause-none
returns-then-seconds-eq0-clause-none c =
    let parsed = c.in_ok-seconds.ensures in
    no_limit c.args.text.now c.in_ok-seconds.seconds parsed.found parsed.range c.then-seconds-eq0.either
