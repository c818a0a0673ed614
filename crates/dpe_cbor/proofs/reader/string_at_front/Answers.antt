use Rattle.std.proofs.Common.{sym, ◌∙◌, arith, ap, length-append, append_assoc, ◌++◌, length}
use Rattle.dpe_cbor.specs.Encoding.{head}
use Rattle.dpe_cbor.proofs.HeadLemmas.{one_head}
use Rattle.dpe_cbor.proofs.reader.string_at_front.Goals as goal

pub returns-then-len-rest-clause-none : goal.returns-then-len-rest-clause-none
returns-then-len-rest-clause-none c = λ s after is.
    let stands = c.in-Some.ensures.found in
    let same = one_head c.args.major c.in-Some.len (length s) c.in-Some.rest.now (s ++ after) stands.0 is.0 (sym stands.1 ∙ is.1 ∙ append_assoc (head c.args.major (length s)) s after) in
    absurd (omega (arith, same.0, ap length same.1, length-append s after))
