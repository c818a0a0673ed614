use Rattle.std.proofs.Common.{length, drop, take, ◌-◌}
use Rattle.std.proofs.lemmas.List.{take_rest}
use Rattle.dpe_link.proofs.Filling.{writing_more}
use Rattle.dpe_text.proofs.Fronts.{front_kept}
use Rattle.dpe_text.proofs.writing.print.Goals as goal

pub loop-written-preserved : goal.loop-written-preserved
loop-written-preserved g c =
    writing_more (g.O.Sink.bytes c.args.out.now) (g.O.Sink.bytes c.loop-written.out) (g.O.Sink.bytes c.write.new.self)
    (g.O.Sink.faults c.args.out.now) (g.O.Sink.faults c.loop-written.out) (g.O.Sink.faults c.write.new.self)
    (g.O.Sink.beside c.args.out.now) (g.O.Sink.beside c.loop-written.out) (g.O.Sink.beside c.write.new.self)
    c.args.text.now (take (length c.args.text.now - c.loop-written.written) (drop c.loop-written.written c.args.text.now)) c.loop-written.written c.in-Ok.count
    c.loop-written.invariant (take_rest c.args.text.now c.loop-written.written) c.in-Ok.ensures.bytes c.in-Ok.ensures.bound c.in-Ok.ensures.cause.kept c.in-Ok.ensures.beside

pub returns-in-Err-clause-front : goal.returns-in-Err-clause-front
returns-in-Err-clause-front g c =
    front_kept (g.O.Sink.bytes c.args.out.now) (g.O.Sink.bytes c.loop-written.out) (g.O.Sink.bytes c.write.new.self) c.args.text.now c.loop-written.written
    c.loop-written.invariant.given c.in-Err.ensures.bytes
