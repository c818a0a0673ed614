use Rattle.std.proofs.Common.{subst}
use Rattle.dpe_journal.specs.Reading.{StopsThere}
use Rattle.dpe_journal.specs.Stages.{Stage}
use Rattle.dpe_audit.proofs.reading.read_header.Goals as goal

pub returns-in-Err-clause-fault : goal.returns-in-Err-clause-fault
returns-in-Err-clause-fault g c =
    subst (λ (s : Stage). StopsThere (g.S.Source.left c.args.records.now.source) (g.S.Source.left c.next.new.self.source) s c.args.records.now.at c.in-Err.fault)
    c.requires c.in-Err.ensures.reads
