use Rattle.std.proofs.Common.{sym, ◌∙◌, subst}
use Rattle.std.specs.Str.{IsUtf8}
use Rattle.dpe_cbor.proofs.HeadLemmas.{one_string}
use Rattle.dpe_cbor.proofs.DecoderLemmas.{text_read, not_text}
use Rattle.dpe_cbor.proofs.reader.text_at_front.Goals as goal

pub returns-in-Err-clause-none : goal.returns-in-Err-clause-none
returns-in-Err-clause-none c = λ s after valid is.
    let stands = c.in-Some.ensures.found in
    let same = one_string 3 s c.in-Some.content.now after c.in-Some.rest.now is.0 stands.0 (sym is.1 ∙ stands.1) in
    c.in-Err.ensures.cases.0 (subst IsUtf8 same.0 valid)

pub returns-in-Err-clause-exact : goal.returns-in-Err-clause-exact
returns-in-Err-clause-exact c = not_text c.args.bytes.now c.in-Some.content.now c.in-Some.rest.now c.in-Some.ensures.exact c.in-Err.ensures.cases.0

pub returns-in-Ok-clause-exact : goal.returns-in-Ok-clause-exact
returns-in-Ok-clause-exact c = rw c.in-Ok.ensures.cases.0 (text_read c.args.bytes.now c.in-Some.content.now c.in-Some.rest.now c.in-Some.ensures.exact c.in-Ok.ensures.cases.1)
