use Rattle.dpe_serve.proofs.Settings.{spelled_at}
use Rattle.dpe_serve.proofs.setting.are_doors.Goals as goal

pub returns-in-None-clause-no : goal.returns-in-None-clause-no
returns-in-None-clause-no c all =
    c.in-None.ensures.none _ (spelled_at c.args.words.now c.loop-word.word-index _ c.loop-word-test.true all)
