use Rattle.std.proofs.Common.{None, arith}
use Rattle.std.proofs.lemmas.List.Folds.{length-flat_map-take}
use Rattle.dpe_messages.specs.Message.{row_encoding}
use Rattle.dpe_messages.proofs.message.rows_len.Goals as goal

pub row_len-len-requires : goal.row_len-len-requires
row_len-len-requires c = omega (arith, length-flat_map-take row_encoding c.args.rows.now c.loop-row.row-index (0, None) c.loop-row-test.true, c.requires)

pub overflow_add-len : goal.overflow_add-len
overflow_add-len c =
    omega (arith, length-flat_map-take row_encoding c.args.rows.now c.loop-row.row-index (0, None) c.loop-row-test.true, c.requires, c.row_len-len.ensures, c.loop-row.invariant)
