use Rattle.std.proofs.Common.{◌++◌, ◌∷◌, [], ◌<◌, sym, ap, ◌∙◌, arith}
use Rattle.dpe_inputs.specs.Cdi.{attest_step}
use Rattle.dpe_quotes.specs.Claimed.{claimed}
use Rattle.dpe_quotes.proofs.Folding.{layer_read, attest_more}
use Rattle.dpe_quotes.proofs.verifying.fold_path.Goals as goal

pub loop-layer-preserved : goal.loop-layer-preserved
loop-layer-preserved c =
    let (done, cdi, so) = c.loop-layer.invariant.0 in
    let lt : c.loop-layer._layer < c.args.depth = let test = c.loop-layer-test.true in omega arith in
    let x = claimed c.in_ok-input.input in (
      (
        done ++ x ∷ [],
        c.attest_next-cdi.ensures ∙ ap (λ d. attest_step d x) cdi ∙ sym (attest_more c.args.seed.now done x),
        layer_read c.args.depth c.loop-layer._layer c.args.reader.now c.loop-layer.reader c.read_input.new.reader done x lt so (sym c.in_ok-input.ensures.read),
      ),
      c.in_ok-input.ensures.place ∙ c.loop-layer.invariant.1,
    )
