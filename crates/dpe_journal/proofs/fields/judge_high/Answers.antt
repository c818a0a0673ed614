use Rattle.dpe_journal.proofs.Judging.{packet_high_short}
use Rattle.dpe_journal.proofs.fields.judge_high.Goals as goal

pub returns-else-high-gt-MOST_HIGH : goal.returns-else-high-gt-MOST_HIGH
returns-else-high-gt-MOST_HIGH c = packet_high_short c.args.high c.if-high-gt-MOST_HIGH.false
