use Rattle.std.proofs.Common.{◌∙◌, arith}
use Rattle.dpe_script.proofs.Scripts.{one_more}
use Rattle.dpe_script.proofs.script.read_lines.Goals as goal

pub loop-at-preserved : goal.loop-at-preserved
loop-at-preserved c = (
  c.loop-at.invariant.0 ∙ one_more c.args.links c.loop-at.at c.args.lines.now _ c.loop-at.script c.add_line.new.script (omega arith) c.in-Ok.ensures.added,
  c.in-Ok.ensures.range,
  c.in-Ok.ensures.link,
  c.in-Ok.ensures.known,
)
