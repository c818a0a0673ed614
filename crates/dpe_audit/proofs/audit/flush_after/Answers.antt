use Rattle.std.proofs.Common.{rules}
use Rattle.dpe_audit.specs.Audit.{IsPrinted}
use Rattle.dpe_audit.proofs.Endings.{ends_unsent}
use Rattle.dpe_audit.proofs.audit.flush_after.Goals as goal

pub returns-in-Err-clause-ends : goal.returns-in-Err-clause-ends
returns-in-Err-clause-ends g c mode seed old new got e =
    let printed : IsPrinted c.args.end = search rules in
    ends_unsent c.args.end printed mode seed old new got (g.O.Sink.bytes c.args.out.now) (g.O.Sink.bytes c.flush.new.self) c.in-Err.ensures.bytes e
