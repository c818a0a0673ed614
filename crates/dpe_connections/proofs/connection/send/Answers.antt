use Rattle.std.proofs.Common.{take}
use Rattle.dpe_link.specs.Frames.{frame}
use Rattle.dpe_connections.proofs.Outputs.{front_taken}
use Rattle.dpe_connections.proofs.StepLemmas.{beside_stays}
use Rattle.dpe_connections.proofs.connection.send.Goals as goal

pub returns-in-Err : goal.returns-in-Err
returns-in-Err g c =
    let text = frame c.args.payload.now in
    let kept = beside_stays g.C.Sink.beside g.C.Source.left g.C.Source.faults g.met.C.Duplex.beside_sink c.args.conn.now c.write_frame.new.sink c.write_frame.ensures.beside in
    rw (g.met.C.Duplex.told_is c.args.conn.now, g.met.C.Duplex.told_is c.write_frame.new.sink) record {
      left = kept.0;
      front = take c.in-Err.field-0.written text;
      is_front = front_taken c.in-Err.field-0.written text;
      written = c.in-Err.ensures.fault.1;
      reads = kept.1;
      rose = c.in-Err.ensures.cause.failed;
    }
