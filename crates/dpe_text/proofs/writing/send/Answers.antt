use Rattle.dpe_text.proofs.Fronts.{whole_front}
use Rattle.dpe_text.proofs.writing.send.Goals as goal

pub returns-in-Ok-clause-front : goal.returns-in-Ok-clause-front
returns-in-Ok-clause-front g c =
    let bytes = g.O.Sink.bytes in
    whole_front c.flush.result (bytes c.args.out.now) (bytes c.print.new.out) (bytes c.flush.new.self) c.args.text.now
    c.in-Ok.ensures.ok c.flush.ensures.bytes
