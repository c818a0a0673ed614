use Rattle.std.proofs.Common.{◌≡◌, ◌+◌, get_or, arith}
use Rattle.dpe_tape.proofs.Tallied.{counts_more, counted}
use Rattle.dpe_tape.proofs.tally.count.Goals as goal

pub returns : goal.returns
returns c rs r is few has =
    let small = counted c.args.counts.now rs c.args.code (omega arith) few has in
    let more : c.saturating_add.result ≡ get_or c.args.counts.now c.args.code 0 + 1 = omega arith in
    counts_more c.args.counts.now rs r c.args.code c.saturating_add.result (omega arith) (omega arith) is more has
