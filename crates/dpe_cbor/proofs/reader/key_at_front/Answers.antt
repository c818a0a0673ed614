use Rattle.std.proofs.Common.{sym, ◌∙◌, subst}
use Rattle.dpe_cbor.specs.Item.{MayFollow}
use Rattle.dpe_cbor.proofs.HeadLemmas.{one_head}
use Rattle.dpe_cbor.proofs.reader.key_at_front.Goals as goal

pub returns-then-not-may_follow-clause-none : goal.returns-then-not-may_follow-clause-none
returns-then-not-may_follow-clause-none c = λ k after follows is.
    let same = one_head 0 k c.in-Some.key after c.in-Some.rest.now is.0 c.in-Some.ensures.found.0 (sym is.1 ∙ c.in-Some.ensures.found.1) in
    let may = c.may_follow.ensures.fact.1 (subst (MayFollow c.args.last) same.0 follows) in
    absurd cc
