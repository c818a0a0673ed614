use Rattle.std.proofs.Common.{arith}
use Rattle.dpe_journal.specs.Stored.{entry_of}
use Rattle.dpe_journal.proofs.Parts.{record_length}
use Rattle.dpe_journal.proofs.records.record_size.Goals as goal

pub returns-clause-size : goal.returns-clause-size
returns-clause-size c = grind (arith, record_length (entry_of c.args.entry.now))
