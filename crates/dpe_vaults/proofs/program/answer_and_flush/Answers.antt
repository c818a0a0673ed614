use Rattle.dpe_vaults.proofs.Running.{ran_kept, ran_unsent}
use Rattle.dpe_vaults.proofs.program.answer_and_flush.Goals as goal

pub returns-in-Ok-clause-ran : goal.returns-in-Ok-clause-ran
returns-in-Ok-clause-ran g c =
    ran_kept c.args.entries (g.S.Source.left c.args.source.now) (g.S.Source.left c.answer_all-status.new.source) (g.K.Sink.bytes c.args.sink.now) (g.K.Sink.bytes c.answer_all-status.new.sink)
    (g.K.Sink.bytes c.flush.new.self) c.answer_all-status.result c.answer_all-status.ensures.ran c.if-status-eq7.false c.in-Ok.ensures.bytes

pub returns-in-Err-clause-ran : goal.returns-in-Err-clause-ran
returns-in-Err-clause-ran g c =
    ran_unsent c.args.entries (g.S.Source.left c.args.source.now) (g.S.Source.left c.answer_all-status.new.source) (g.K.Sink.bytes c.args.sink.now) (g.K.Sink.bytes c.answer_all-status.new.sink)
    (g.K.Sink.bytes c.flush.new.self) c.answer_all-status.result c.answer_all-status.ensures.ran c.if-status-eq7.false c.in-Err.ensures.bytes
