use Rattle.std.proofs.Common.{◌≡◌, sym, ◌∙◌}
use Rattle.std.proofs.lemmas.Slice.Eq.{bytes_eq-Decides}
use Rattle.dpe_cbor.specs.Encoding.{head}
use Rattle.dpe_messages.specs.Message.{inner, message}
use Rattle.dpe_messages.specs.Replies.{profile, reply_payload}
use Rattle.dpe_messages.proofs.reply_reader.is_profile.Goals as goal

pub returns : goal.returns
unfolding message inner head
returns c =
    let same : c.as_slice.result.now ≡ reply_payload profile = c.as_slice.ensures in
    let test = bytes_eq-Decides c.args.payload.now c.as_slice.result.now in
    (λ e. test.0 (sym c.eq.ensures ∙ e) ∙ same, λ is. c.eq.ensures ∙ test.1 (is ∙ sym same))
