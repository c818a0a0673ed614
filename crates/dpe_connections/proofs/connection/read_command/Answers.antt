use Rattle.dpe_connections.proofs.StepLemmas.{beside_stays}
use Rattle.dpe_connections.proofs.connection.read_command.Goals as goal

pub returns-in-Err-TooLong-clause-end : goal.returns-in-Err-TooLong-clause-end
returns-in-Err-TooLong-clause-end g c =
    let reads = rw c.in-Err-TooLong.field-0-is at c.in-Err-TooLong.ensures.reads in
    let cause = rw c.in-Err-TooLong.field-0-is at c.in-Err-TooLong.ensures.cause in
    let kept = beside_stays g.C.Source.beside g.C.Sink.bytes g.C.Sink.faults g.met.C.Duplex.beside_source c.args.conn.now c.read_frame.new.source c.read_frame.ensures.beside in
    rw (g.met.C.Duplex.told_is c.args.conn.now, g.met.C.Duplex.told_is c.read_frame.new.source) record { part = reads.0; read = reads.1; is_rest = (reads.2, reads.3, reads.4); written = kept.0; faults = (cause, kept.1); cause = λ k. tt }

pub returns-in-Err-ReadFault-clause-end : goal.returns-in-Err-ReadFault-clause-end
returns-in-Err-ReadFault-clause-end g c =
    let reads = rw c.in-Err-ReadFault.field-0-is at c.in-Err-ReadFault.ensures.reads in
    let cause = rw c.in-Err-ReadFault.field-0-is at c.in-Err-ReadFault.ensures.cause in
    let kept = beside_stays g.C.Source.beside g.C.Sink.bytes g.C.Sink.faults g.met.C.Duplex.beside_source c.args.conn.now c.read_frame.new.source c.read_frame.ensures.beside in
    rw (g.met.C.Duplex.told_is c.args.conn.now, g.met.C.Duplex.told_is c.read_frame.new.source) record { part = reads.0; read = reads.1; is_rest = reads.2; written = kept.0; faults = (cause, kept.1); cause = λ k. tt }
