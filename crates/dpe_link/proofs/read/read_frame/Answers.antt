use Rattle.std.proofs.Common.{length, arith}
use Rattle.std.proofs.lemmas.List.{length-take}
use Rattle.dpe_link.proofs.Bodies.{no_body}
use Rattle.dpe_link.proofs.read.read_frame.Goals as goal

pub returns-in-Err-read_body-clause-reads : goal.returns-in-Err-read_body-clause-reads
returns-in-Err-read_body-clause-reads g c =
    let head = rw c.in-Ok-Some.field-0-is at c.in-Ok-Some.ensures.reads in
    no_body (g.S.Source.left c.args.source.now) (g.S.Source.left c.read_head.new.source) (g.S.Source.left c.read_body.new.source)
    c.in-Ok-Some.length _ c.in-Err-read_body.fault head.0 (omega (arith, length-take c.in-Ok-Some.length c.args.room.now, head.0, c.told-room)) head.1 c.in-Err-read_body.ensures.fault
