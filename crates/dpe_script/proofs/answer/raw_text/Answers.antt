use Rattle.std.proofs.Common.{Some, [], ◌∷◌, length, ap, ◌∙◌, arith}
use Rattle.std.proofs.lemmas.List.{length-append}
use Rattle.dpe_script.proofs.Shown.{grown_few}
use Rattle.dpe_script.proofs.answer.raw_text.Goals as goal

pub push-requires-2 : goal.push-requires-2
push-requires-2 c =
    let dash = ap length c.push.ensures.piece ∙ length-append c.begin-text.result (45 ∷ []) in
    let few = grown_few c.push.new.self c.push_shown.new.text (Some c.args.payload.now) 4096 c.push_shown.ensures c.requires in
    omega (arith, dash, few, c.begin-text.ensures.few)
