use Rattle.std.proofs.Common.{subst}
use Rattle.dpe_journal.specs.Places.{Reading}
use Rattle.dpe_journal.specs.Reading.{StopsThere}
use Rattle.dpe_journal.proofs.records.Records.next.Goals as goal

pub returns-in-Err-clause-reads : goal.returns-in-Err-clause-reads
returns-in-Err-clause-reads g c =
    subst (λ (r : Reading _). StopsThere (g.S.Source.left r.source) (g.S.Source.left c.read_next.new.source) r.stage r.at c.in-Err.fault) c.self.view_is c.in-Err.ensures.reads
