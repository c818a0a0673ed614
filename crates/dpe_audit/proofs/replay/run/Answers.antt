use Rattle.std.proofs.Common.{sym, subst}
use Rattle.dpe_audit.specs.Replay.{RunEnds}
use Rattle.dpe_audit.specs.Words.{mode_of}
use Rattle.dpe_audit.specs.declared.words.Request.{Request}
use Rattle.dpe_audit.proofs.replay.run.Goals as goal

pub returns-in-Check-clause-ends : goal.returns-in-Check-clause-ends
returns-in-Check-clause-ends g c =
    subst (λ (r : Request). RunEnds g.F.File.Source.left g.F.File.Source.faults (mode_of r) (g.F.Shelf.files c.args.shelf.now) (g.F.Shelf.files c.judge_file.new.shelf)
    (g.O.Sink.bytes c.args.out.now) (g.O.Sink.bytes c.judge_file.new.out) c.judge_file.result)
    (sym c.in-Check.is) c.judge_file.ensures.ends

pub returns-in-Live-clause-ends : goal.returns-in-Live-clause-ends
returns-in-Live-clause-ends g c =
    subst (λ (r : Request). RunEnds g.F.File.Source.left g.F.File.Source.faults (mode_of r) (g.F.Shelf.files c.args.shelf.now) (g.F.Shelf.files c.judge_file-in-Live.new.shelf)
    (g.O.Sink.bytes c.args.out.now) (g.O.Sink.bytes c.judge_file-in-Live.new.out) c.judge_file-in-Live.result)
    (sym c.in-Live.is) c.judge_file-in-Live.ensures.ends
