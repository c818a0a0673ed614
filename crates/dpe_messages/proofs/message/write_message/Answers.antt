use Rattle.std.proofs.Common.{◌∙◌, ◌++◌, ℕ, ap, sym, arith, refl, take, drop, length}
use Rattle.dpe_messages.specs.Message.{message, inner, present, rows_of}
use Rattle.dpe_messages.proofs.Writing.{message_length, message_appended}
use Rattle.dpe_messages.proofs.message.write_message.Goals as goal

pub inner_len-len-requires : goal.inner_len-len-requires
inner_len-len-requires c =
    let m = present (rows_of c.args.rows.now) in
    omega (arith, message_length c.args.number m (length (inner c.args.number m)) refl, c.requires)

pub put_array-requires : goal.put_array-requires
put_array-requires c = omega (arith, message_length c.args.number (present (rows_of c.args.rows.now)) c.inner_len-len.result c.inner_len-len.ensures, c.requires, ap length c.new-writer.ensures.room)

pub put_uint-requires : goal.put_uint-requires
put_uint-requires c = omega (arith, message_length c.args.number (present (rows_of c.args.rows.now)) c.inner_len-len.result c.inner_len-len.ensures, c.requires, ap length c.new-writer.ensures.room)

pub put_bytes_head-requires : goal.put_bytes_head-requires
put_bytes_head-requires c = omega (arith, message_length c.args.number (present (rows_of c.args.rows.now)) c.inner_len-len.result c.inner_len-len.ensures, c.requires, ap length c.new-writer.ensures.room)

pub put_inner-requires : goal.put_inner-requires
put_inner-requires c = omega (arith, message_length c.args.number (present (rows_of c.args.rows.now)) c.inner_len-len.result c.inner_len-len.ensures, c.requires, ap length c.new-writer.ensures.room)

pub returns-clause-written : goal.returns-clause-written
returns-clause-written c =
    let m = present (rows_of c.args.rows.now) in
    let all = message_appended c.new-writer.result c.put_array.new.writer c.put_uint.new.writer c.put_bytes_head.new.writer c.put_inner.new.writer c.args.number m c.inner_len-len.result c.inner_len-len.ensures
    c.put_array.ensures c.put_uint.ensures c.put_bytes_head.ensures c.put_inner.ensures in
    ap (λ (n : ℕ). take n c.put_inner.new.writer.room.now) c.len.ensures
    ∙ all.written_is
    ∙ ap (λ (n : ℕ). take n c.new-writer.result.room.now ++ message c.args.number m) c.new-writer.ensures.len

pub returns-clause-behind : goal.returns-clause-behind
returns-clause-behind c =
    let m = present (rows_of c.args.rows.now) in
    let all = message_appended c.new-writer.result c.put_array.new.writer c.put_uint.new.writer c.put_bytes_head.new.writer c.put_inner.new.writer c.args.number m c.inner_len-len.result c.inner_len-len.ensures
    c.put_array.ensures c.put_uint.ensures c.put_bytes_head.ensures c.put_inner.ensures in
    ap (λ (n : ℕ). drop n c.put_inner.new.writer.room.now) c.len.ensures
    ∙ all.beyond
    ∙ ap (drop c.put_inner.new.writer.len) c.new-writer.ensures.room
    ∙ ap (λ (n : ℕ). drop n c.args.room.now) (sym c.len.ensures)
