use Rattle.std.proofs.Common.{take, arith}
use Rattle.std.proofs.lemmas.List.{length-take}
use Rattle.dpe_tape.proofs.Items.{short_front}
use Rattle.dpe_tape.proofs.tape.read_front.Goals as goal

pub returns-then-count-lt-FRONT_SIZE-clause-front : goal.returns-then-count-lt-FRONT_SIZE-clause-front
returns-then-count-lt-FRONT_SIZE-clause-front g c = (
  take c.in-Ok.count c.fill.new.room,
  c.in-Ok.ensures.bytes,
  omega (arith, length-take c.in-Ok.count c.fill.new.room),
  short_front (g.S.Source.left c.fill.new.source) c.fill.new.room c.in-Ok.count (c.in-Ok.ensures.end (omega arith)) c.if-count-lt-FRONT_SIZE.true,
)
