-- Accepted signatures under the label are tags of quotes.
use Rattle.std.proofs.Common.{List, ℕ, ap}
use Rattle.dpe_inputs.specs.Cdi.{attest_cdi, signature}
use Rattle.dpe_messages.specs.Request.{sign}
use Rattle.dpe_model.specs.History.{path_at, state_after}
use Rattle.dpe_model.proofs.Folds.{inputs_folded}
use Rattle.dpe_model.proofs.Sizes.{length-signature}
use Rattle.dpe_quotes.specs.Laws.{SignsProve}
use Rattle.dpe_quotes.proofs.Lineages.{quotable_at}

pub signs_prove : SignsProve
signs_prove seed first H before rest e s legal is asked accepted label =
    let cdi = attest_cdi seed (path_at (state_after seed first before) e) in
    let path = quotable_at seed first before e (sign s) accepted asked in
    let size = length-signature cdi s.label s.message in
    record {
      tag = signature cdi s.label s.message;
      replied = inputs_folded seed first H legal before rest e (sign s) is asked accepted;
      size = size;
      proves = ap (λ (l : List ℕ). signature cdi l s.message) label;
      quote = λ least most. record { least = least; most = most; depth = path.depth; inputs = path.inputs; tag = size };
    }
