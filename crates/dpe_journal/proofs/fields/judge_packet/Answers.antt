use Rattle.std.proofs.Common.{length, sym, eqb-true, arith}
use Rattle.std.proofs.lemmas.Bool.{eqb-false}
use Rattle.dpe_journal.proofs.Judging.{packet_none, packet_short, packet_whole, at_least_two}
use Rattle.dpe_journal.proofs.fields.judge_packet.Goals as goal

pub returns-then-is_empty : goal.returns-then-is_empty
returns-then-is_empty c = packet_none c.args.bytes.now (eqb-true (length c.args.bytes.now) 0 (sym c.if-is_empty.ensures))

pub returns-then-bytes-len : goal.returns-then-bytes-len
returns-then-bytes-len c =
    packet_short c.told_length-len.result c.args.bytes.now c.told_length-len.ensures.told (λ i. omega (arith, c.type_inv.bytes i))
    (at_least_two (length c.args.bytes.now) (eqb-false (length c.args.bytes.now) 0 (sym c.if-is_empty.ensures)) c.if-bytes-eq1.false) c.if-len-gt-MAX_PACKET.false c.if-bytes-len.true

pub returns : goal.returns
returns c =
    packet_whole c.told_length-len.result c.args.bytes.now c.told_length-len.ensures.told (λ i. omega (arith, c.type_inv.bytes i))
    (at_least_two (length c.args.bytes.now) (eqb-false (length c.args.bytes.now) 0 (sym c.if-is_empty.ensures)) c.if-bytes-eq1.false) c.if-len-gt-MAX_PACKET.false c.if-bytes-len.false
