use Rattle.dpe_tape.specs.declared.run.End.TheVariants.{Done, Malformed, Overlong}
use Rattle.dpe_tape.specs.Answers.{batch}
use Rattle.dpe_tape.proofs.Divisions.{kind_at, whole_not_malformed, whole_not_overlong, malformed_not_overlong}
use Rattle.dpe_tape.proofs.batch.batch_main.Goals as goal

pub returns-in_default-clause-complete : goal.returns-in_default-clause-complete
returns-in_default-clause-complete g c seed first bytes asked told is source sink = absurd (c.in_default.ensures.none.no_run seed first asked)

pub returns-in_default-clause-refused : goal.returns-in_default-clause-refused
returns-in_default-clause-refused g c seed first bytes asked told is source sink = absurd (c.in_default.ensures.none.no_run seed first asked)

pub returns-in_default-clause-too_many : goal.returns-in_default-clause-too_many
returns-in_default-clause-too_many g c seed first bytes asked told is source sink = absurd (c.in_default.ensures.none.no_run seed first asked)

pub returns-in-Done-clause-refused : goal.returns-in-Done-clause-refused
returns-in-Done-clause-refused g c seed first bytes asked told is source sink =
    absurd (whole_not_malformed bytes (kind_at c.in-Ok.end Done (batch c.in-Run.request.seed c.in-Run.request.first) (g.S.Source.left c.args.source.now) (g.S.Source.left c.run.new.source) (g.K.Sink.bytes c.args.sink.now) (g.K.Sink.bytes c.run.new.sink)
    bytes c.in-Done.is c.in-Ok.ensures.ended told) is)

pub returns-in-Done-clause-too_many : goal.returns-in-Done-clause-too_many
returns-in-Done-clause-too_many g c seed first bytes asked told is source sink =
    absurd (whole_not_overlong bytes (kind_at c.in-Ok.end Done (batch c.in-Run.request.seed c.in-Run.request.first) (g.S.Source.left c.args.source.now) (g.S.Source.left c.run.new.source) (g.K.Sink.bytes c.args.sink.now) (g.K.Sink.bytes c.run.new.sink)
    bytes c.in-Done.is c.in-Ok.ensures.ended told) is)

pub returns-in-Malformed-clause-complete : goal.returns-in-Malformed-clause-complete
returns-in-Malformed-clause-complete g c seed first bytes asked told is source sink =
    absurd (whole_not_malformed bytes is (kind_at c.in-Ok.end Malformed (batch c.in-Run.request.seed c.in-Run.request.first) (g.S.Source.left c.args.source.now) (g.S.Source.left c.run.new.source) (g.K.Sink.bytes c.args.sink.now) (g.K.Sink.bytes c.run.new.sink)
    bytes c.in-Malformed.is c.in-Ok.ensures.ended told))

pub returns-in-Malformed-clause-too_many : goal.returns-in-Malformed-clause-too_many
returns-in-Malformed-clause-too_many g c seed first bytes asked told is source sink =
    absurd (malformed_not_overlong bytes (kind_at c.in-Ok.end Malformed (batch c.in-Run.request.seed c.in-Run.request.first) (g.S.Source.left c.args.source.now) (g.S.Source.left c.run.new.source) (g.K.Sink.bytes c.args.sink.now) (g.K.Sink.bytes c.run.new.sink)
    bytes c.in-Malformed.is c.in-Ok.ensures.ended told) is)

pub returns-in-Overlong-clause-complete : goal.returns-in-Overlong-clause-complete
returns-in-Overlong-clause-complete g c seed first bytes asked told is source sink =
    absurd (whole_not_overlong bytes is (kind_at c.in-Ok.end Overlong (batch c.in-Run.request.seed c.in-Run.request.first) (g.S.Source.left c.args.source.now) (g.S.Source.left c.run.new.source) (g.K.Sink.bytes c.args.sink.now) (g.K.Sink.bytes c.run.new.sink)
    bytes c.in-Overlong.is c.in-Ok.ensures.ended told))

pub returns-in-Overlong-clause-refused : goal.returns-in-Overlong-clause-refused
returns-in-Overlong-clause-refused g c seed first bytes asked told is source sink =
    absurd (malformed_not_overlong bytes is (kind_at c.in-Ok.end Overlong (batch c.in-Run.request.seed c.in-Run.request.first) (g.S.Source.left c.args.source.now) (g.S.Source.left c.run.new.source) (g.K.Sink.bytes c.args.sink.now) (g.K.Sink.bytes c.run.new.sink)
    bytes c.in-Overlong.is c.in-Ok.ensures.ended told))
