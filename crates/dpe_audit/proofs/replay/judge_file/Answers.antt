use Rattle.std.proofs.Common.{refl, inr}
use Rattle.dpe_audit.specs.Verdicts.{mode_of}
use Rattle.dpe_audit.proofs.Endings.{view_judges}
use Rattle.dpe_audit.proofs.Replaying.{run_judges}
use Rattle.dpe_audit.proofs.replay.judge_file.Goals as goal

pub returns-in-Holds-clause-ends : goal.returns-in-Holds-clause-ends
returns-in-Holds-clause-ends g c =
    run_judges g.F.File.Source.left g.F.File.Source.faults (mode_of c.args.view) c.in-Holds.seed (g.F.Shelf.files c.args.shelf.now) (g.F.Shelf.files c.read_seed.new.shelf) (g.F.Shelf.files c.audit_file.new.shelf)
    (g.O.Sink.bytes c.args.out.now) (g.O.Sink.bytes c.audit_file.new.out) c.audit_file.result (view_judges c.args.view) c.in-Holds.ensures c.audit_file.ensures.ends

pub returns-in-Unread-clause-ends : goal.returns-in-Unread-clause-ends
returns-in-Unread-clause-ends g c = inr (inr (view_judges c.args.view, c.in-Unread.ensures, refl))
