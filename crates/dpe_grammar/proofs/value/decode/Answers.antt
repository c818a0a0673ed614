use Rattle.dpe_grammar.proofs.Spelling.{room_for}
use Rattle.std.proofs.Common.{length}
use Rattle.dpe_grammar.proofs.value.decode.Goals as goal

pub repeat-requires : goal.repeat-requires
repeat-requires c = room_for c.args.value.now c.in-Repeated.byte (length c.args.room.now) c.in-Repeated.is c.requires
