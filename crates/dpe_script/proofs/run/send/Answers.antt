use Rattle.dpe_link.specs.Frames.{frame}
use Rattle.dpe_text.proofs.Fronts.{front_of}
use Rattle.dpe_script.proofs.run.send.Goals as goal

pub returns-in-Err-clause-front : goal.returns-in-Err-clause-front
returns-in-Err-clause-front g c =
    rw (g.met.L.Duplex.told_is c.args.link.now, g.met.L.Duplex.told_is c.write_frame.new.sink)
    (front_of (g.L.Sink.bytes c.args.link.now) (g.L.Sink.bytes c.write_frame.new.sink) (frame c.args.payload.now) c.in-Err.field-0.written c.in-Err.ensures.fault.1)
