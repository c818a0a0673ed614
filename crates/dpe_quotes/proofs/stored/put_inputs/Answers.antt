use Rattle.std.proofs.Common.{◌≡◌, ℕ, suc, ◌+◌, List, [], ◌∷◌, ◌++◌, ◌<◌, length, ap, ◌∙◌, arith}
use Rattle.std.proofs.lemmas.List.{length-set, take_more_set}
use Rattle.dpe_inputs.specs.declared.Input.{Input}
use Rattle.dpe_quotes.specs.Stored.{first_inputs}
use Rattle.dpe_quotes.proofs.stored.put_inputs.Goals as goal

pub loop-layer-preserved : goal.loop-layer-preserved
loop-layer-preserved c =
    let at : c.loop-layer.layer < length c.loop-layer.path = let test = c.loop-layer-test.true in let few = c.requires.few in let size = c.loop-layer.invariant.1 in omega arith in
    let more : suc c.loop-layer.layer ≡ c.loop-layer.layer + 1 = omega arith in (
      take_more_set c.loop-layer.path c.loop-layer.layer c.input_at.result at
          ∙ ap (λ (p : List Input). p ++ c.input_at.result ∷ []) c.loop-layer.invariant.0
          ∙ ap (λ (x : Input). first_inputs c.loop-layer.layer c.args.bytes.now ++ x ∷ []) c.input_at.ensures
          ∙ ap (λ (n : ℕ). first_inputs n c.args.bytes.now) more,
      length-set c.loop-layer.path c.loop-layer.layer c.input_at.result ∙ c.loop-layer.invariant.1,
    )
