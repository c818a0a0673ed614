use Rattle.std.proofs.Common.{subst}
use Rattle.dpe_journal.specs.Reading.{StopsThere}
use Rattle.dpe_journal.specs.Stages.{Stage}
use Rattle.dpe_audit.proofs.reading.read_record.Goals as goal

pub returns-in-Err-clause-takes : goal.returns-in-Err-clause-takes
returns-in-Err-clause-takes g c count stands =
    subst (λ (s : Stage). StopsThere (g.S.Source.left c.args.records.now.source) (g.S.Source.left c.next.new.self.source) s c.args.records.now.at c.in-Err.fault)
    stands c.in-Err.ensures.reads
