use Rattle.dpe_audit.specs.Listing.{mode_of}
use Rattle.dpe_audit.proofs.Endings.{choice_lists}
use Rattle.dpe_audit.proofs.Replaying.{run_lists}
use Rattle.dpe_audit.proofs.replay.list_file.Goals as goal

pub returns-clause-ends : goal.returns-clause-ends
returns-clause-ends g c =
    run_lists g.F.File.Source.left g.F.File.Source.faults (mode_of c.args.choice) (g.F.Shelf.files c.args.shelf.now) (g.F.Shelf.files c.audit_file.new.shelf)
    (g.O.Sink.bytes c.args.out.now) (g.O.Sink.bytes c.audit_file.new.out) c.audit_file.result (choice_lists c.args.choice) c.audit_file.ensures.ends
