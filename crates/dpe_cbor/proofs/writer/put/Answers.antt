use Rattle.std.proofs.Common.{length, ap, arith}
use Rattle.std.proofs.lemmas.Slice.{drop-put_mid}
use Rattle.dpe_cbor.proofs.writer.put.Goals as goal

pub returns-clause-tail : goal.returns-clause-tail
returns-clause-tail c =
    drop-put_mid c.args.at _ c.args.room.now _ _ (omega arith) (omega (arith, c.requires)) (omega (arith, ap length c.copy_from_slice.ensures.after))
