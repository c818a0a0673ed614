use Rattle.std.proofs.Common.{arith, refl}
use Rattle.dpe_messages.proofs.Writing.{inner_length, inner_appended}
use Rattle.dpe_messages.proofs.message.put_inner.Goals as goal

pub put_array-requires : goal.put_array-requires
put_array-requires c = omega (arith, inner_length c.args.number c.args.rows.now _ refl)

pub put_map-requires : goal.put_map-requires
put_map-requires c = omega (arith, inner_length c.args.number c.args.rows.now c.count.result c.count.ensures)

pub put_rows-requires : goal.put_rows-requires
put_rows-requires c = omega (arith, inner_length c.args.number c.args.rows.now c.count.result c.count.ensures)

pub returns : goal.returns
returns c =
    inner_appended c.args.writer.now c.put_array.new.writer c.put_uint.new.writer c.put_map.new.writer c.put_rows.new.writer c.args.number c.args.rows.now c.count.result c.count.ensures
    c.put_array.ensures c.put_uint.ensures c.put_map.ensures c.put_rows.ensures

pub put_uint-requires : goal.put_uint-requires
put_uint-requires c = omega (arith, inner_length c.args.number c.args.rows.now _ refl)
