use Rattle.std.proofs.Common.{◌∙◌, arith}
use Rattle.std.proofs.lemmas.List.{take_all}
use Rattle.dpe_messages.proofs.payload.array64.Goals as goal

pub returns : goal.returns
returns c = c.in-Some.ensures.cases.0 ∙ take_all 64 c.args.bytes.now (omega (arith, c.requires))
