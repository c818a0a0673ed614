use Rattle.std.proofs.Common.{◌+◌, length, ap, arith}
use borrow.Rule.Slice.PartMut.{drop_put}
use Rattle.dpe_box.proofs.sealing.put.Goals as goal

pub returns-clause-rest : goal.returns-clause-rest
returns-clause-rest c =
    let copied = ap length c.copy_from_slice.ensures.after in
    let fits = c.requires in
    drop_put c.args.at (c.args.at + length c.args.piece.now) c.args.room.now c.copy_from_slice.new.self (omega arith) fits (omega arith)
