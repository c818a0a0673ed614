use Rattle.dpe_model.proofs.answers.answer.Goals as goal

pub returns-in-None : goal.returns-in-None
returns-in-None c = rw c.in-None.is (c.answer_without_row.ensures c.args.seed.now)
