use Rattle.std.proofs.Common.{length}
use Rattle.dpe_script.specs.CodeScript.{lines_are}
use Rattle.dpe_script.proofs.Completing.{no_bad_reply}
use Rattle.dpe_script.proofs.Visiting.{links_unsent}
use Rattle.dpe_script.proofs.client.run_lines.Goals as goal

pub returns-in-Err-send-clause-ends : goal.returns-in-Err-send-clause-ends
returns-in-Err-send-clause-ends g c =
    links_unsent g.D.Link.Duplex.told (length c.args.paths.now) (lines_are c.args.lines.now)
    (g.D.Dock.links c.args.dock.now) (g.D.Dock.links c.run_on_links.new.dock) (g.O.Sink.bytes c.args.out.now) (g.O.Sink.bytes c.run_on_links.new.out) (g.O.Sink.bytes c.send.new.out)
    c.in-Ok.ensures.ends c.in-Err-send.ensures.front

pub returns-in-Ok-send-3-clause-answered : goal.returns-in-Ok-send-3-clause-answered
returns-in-Ok-send-3-clause-answered g c = λ t e.
    no_bad_reply g.D.Link.Duplex.told (length c.args.paths.now) c.args.lines.now
    (g.D.Dock.links c.args.dock.now) (g.D.Dock.links c.run_on_links.new.dock) (g.O.Sink.bytes c.args.out.now) (g.O.Sink.bytes c.run_on_links.new.out) c.in-Err.fault.line c.in-Err.fault.cause
    c.in-Reply.is c.requires.link c.in-Err.ensures.ends t
