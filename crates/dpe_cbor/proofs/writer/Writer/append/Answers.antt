use Rattle.std.proofs.Common.{refl, arith, length-append}
use Rattle.dpe_cbor.proofs.Behind.{two_written, two_behind}
use Rattle.dpe_cbor.proofs.writer.Writer.append.Goals as goal

pub returns-clause-ok : goal.returns-clause-ok
returns-clause-ok c =
    record {
      written_is = two_written c.args.self.now.len c.args.head.now c.args.content.now c.args.self.now.room.now c.put.new.room c.put-2.new.room c.put.ensures.front c.put-2.ensures.front;
      len_is = omega (arith, length-append c.args.head.now c.args.content.now);
      same_room = refl;
      room_len = omega (arith, c.put.auto.room, c.put-2.auto.room);
      beyond = two_behind c.args.self.now.len c.args.head.now c.args.content.now c.args.self.now.room.now c.put.new.room c.put-2.new.room c.put.ensures.tail c.put-2.ensures.tail;
    }
