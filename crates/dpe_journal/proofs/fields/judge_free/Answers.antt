use Rattle.std.proofs.Common.{arith}
use Rattle.dpe_journal.proofs.Judging.{free_short}
use Rattle.dpe_journal.proofs.fields.judge_free.Goals as goal

pub returns-then-bytes-size : goal.returns-then-bytes-size
returns-then-bytes-size c = free_short c.args.size c.args.bytes.now (λ i. omega (arith, c.type_inv.bytes i)) c.if-bytes-size.true
