use Rattle.dpe_tape.specs.Answers.{answers}
use Rattle.dpe_tape.proofs.Runs.{ended_unsent}
use Rattle.dpe_tape.proofs.run.answer_and_flush.Goals as goal

pub returns-in-Err-clause-ended : goal.returns-in-Err-clause-ended
returns-in-Err-clause-ended g c =
    ended_unsent c.answer_all-end.result (answers c.args.core.now) (g.S.Source.left c.args.source.now) (g.S.Source.left c.answer_all-end.new.source) (g.K.Sink.bytes c.args.sink.now) (g.K.Sink.bytes c.answer_all-end.new.sink) (g.K.Sink.bytes c.flush.new.self)
    c.answer_all-end.ensures.ended c.in-Err.ensures.bytes
