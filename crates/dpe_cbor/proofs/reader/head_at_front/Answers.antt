use Rattle.std.proofs.Common.{sym, arith}
use Rattle.dpe_cbor.proofs.HeadLemmas.{HasHead-from_head_at, no_head}
use Rattle.dpe_cbor.proofs.reader.head_at_front.Goals as goal

pub split_at-requires : goal.split_at-requires
split_at-requires c = (HasHead-from_head_at c.args.major c.args.bytes.now c.in-Some.argument c.in-Some.len (λ i. omega (arith, c.type_inv.bytes i)) (sym c.in-Some.ensures)).within

pub returns-in-None-clause-none : goal.returns-in-None-clause-none
returns-in-None-clause-none c = λ n after is. no_head c.args.major c.args.bytes.now c.in-None.ensures n after is.0 is.1

pub returns-in-Some-clause-found : goal.returns-in-Some-clause-found
returns-in-Some-clause-found c =
    let stands = HasHead-from_head_at c.args.major c.args.bytes.now c.in-Some.argument c.in-Some.len (λ i. omega (arith, c.type_inv.bytes i)) (sym c.in-Some.ensures) in
    (stands.number, rw c.split_at.ensures.back stands.front)
