use Rattle.dpe_model.proofs.PlainLemmas.{mode_at}
use Rattle.dpe_model.proofs.state.mode.Goals as goal

pub returns-in-Some : goal.returns-in-Some
returns-in-Some c = mode_at c.args.row.now.lineage.items c.deref.result.now c.in-Some.birth.now c.deref.ensures.value c.in-Some.ensures.item.3.0 c.in-Some.ensures.item.1
