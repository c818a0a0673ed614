use Rattle.std.proofs.Common.{◌∙◌, arith}
use Rattle.dpe_ratchets.proofs.Stepping.{step_more}
use Rattle.dpe_ratchets.proofs.stage.lower_key.Goals as goal

pub loop-step-preserved : goal.loop-step-preserved
loop-step-preserved c cdi is =
    c.key_below-key.ensures
    ∙ step_more cdi c.args.from c.loop-step.step c.loop-step.key c.requires.most (let test = c.loop-step-test.true in omega arith) (c.loop-step.invariant cdi is)
