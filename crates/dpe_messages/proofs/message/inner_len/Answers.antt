use Rattle.std.proofs.Common.{arith}
use Rattle.dpe_messages.proofs.Lengths.{head_len_1}
use Rattle.dpe_messages.proofs.Writing.{inner_length}
use Rattle.dpe_messages.proofs.message.inner_len.Goals as goal

pub rows_len-requires : goal.rows_len-requires
rows_len-requires c = omega (arith, inner_length c.args.number c.args.rows.now c.count.result c.count.ensures, c.requires)

pub overflow_add-result-3 : goal.overflow_add-result-3
overflow_add-result-3 c =
    omega (arith, inner_length c.args.number c.args.rows.now c.count.result c.count.ensures, c.requires, c.rows_len.ensures, c.head_len.ensures.len 0, c.head_len-2.ensures.len 5, head_len_1 4 2 (omega arith))

pub returns : goal.returns
returns c =
    omega (arith, inner_length c.args.number c.args.rows.now c.count.result c.count.ensures, c.rows_len.ensures, c.head_len.ensures.len 0, c.head_len-2.ensures.len 5, head_len_1 4 2 (omega arith))
