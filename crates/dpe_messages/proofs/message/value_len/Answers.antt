use Rattle.std.proofs.Common.{◌≡◌, Bool, true, false, sym, ap, ◌∙◌, length, arith}
use Rattle.dpe_cbor.specs.Encoding.{encoding}
use Rattle.dpe_messages.specs.FlatMap.{item_of}
use Rattle.dpe_messages.specs.Found.{view}
use Rattle.dpe_messages.specs.declared.layers.Found.{Found}
use Rattle.dpe_messages.specs.declared.layers.Found.TheVariants.{Truth}
use Rattle.dpe_messages.proofs.Lengths.{head_len_1}
use Rattle.dpe_messages.proofs.message.value_len.Goals as goal

truth_len : (b : Bool) → length (encoding (item_of (view (Truth b)))) ≡ 1
truth_len false = head_len_1 7 20 (omega arith)
truth_len true = head_len_1 7 21 (omega arith)

pub returns-in-Truth : goal.returns-in-Truth
returns-in-Truth c = sym (ap (λ (f : Found). length (encoding (item_of (view f)))) c.in-Truth.is ∙ truth_len c.in-Truth.field-0)
