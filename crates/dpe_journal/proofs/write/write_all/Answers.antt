use Rattle.std.proofs.Common.{length, sym, ◌∙◌, arith, eqb-true}
use Rattle.dpe_journal.proofs.Gathering.{sending_none, sending_more}
use Rattle.dpe_journal.proofs.Sending.{sends_count, front_so_far, empty_rest}
use Rattle.dpe_journal.proofs.write.write_all.Goals as goal

pub loop-rest-init : goal.loop-rest-init
loop-rest-init g c = sending_none (g.K.Sink.bytes c.args.sink.now) (g.K.Sink.faults c.args.sink.now) (g.K.Sink.beside c.args.sink.now) c.args.piece.now c.args.before

pub overflow_add-written : goal.overflow_add-written
overflow_add-written g c =
    omega (arith, sends_count (g.K.Sink.bytes c.args.sink.now) (g.K.Sink.bytes c.loop-rest.sink) c.args.piece.now c.loop-rest.rest.now c.args.before c.loop-rest.written c.loop-rest.invariant.sends, c.in-Ok.ensures.bound, c.requires)

pub returns-in-Err-clause-fault : goal.returns-in-Err-clause-fault
returns-in-Err-clause-fault g c =
    front_so_far (g.K.Sink.bytes c.args.sink.now) (g.K.Sink.bytes c.loop-rest.sink) c.args.piece.now c.loop-rest.rest.now c.args.before c.loop-rest.written c.loop-rest.invariant.sends
    (g.K.Sink.bytes c.write.new.self) c.in-Err.ensures.bytes

pub loop-rest-preserved : goal.loop-rest-preserved
loop-rest-preserved g c =
    sending_more (g.K.Sink.bytes c.args.sink.now) (g.K.Sink.bytes c.loop-rest.sink) (g.K.Sink.bytes c.write.new.self) (g.K.Sink.faults c.args.sink.now) (g.K.Sink.faults c.loop-rest.sink) (g.K.Sink.faults c.write.new.self)
    (g.K.Sink.beside c.args.sink.now) (g.K.Sink.beside c.loop-rest.sink) (g.K.Sink.beside c.write.new.self) c.args.piece.now c.loop-rest.rest.now c.split_at.result.1.now c.args.before c.loop-rest.written c.in-Ok.count
    c.loop-rest.invariant c.split_at.ensures.back c.in-Ok.ensures.bytes c.in-Ok.ensures.bound c.in-Ok.ensures.cause.kept c.in-Ok.ensures.beside

pub returns-clause-ok : goal.returns-clause-ok
returns-clause-ok g c =
    empty_rest (g.K.Sink.bytes c.args.sink.now) (g.K.Sink.bytes c.loop-rest.sink) c.args.piece.now c.loop-rest.rest.now c.args.before c.loop-rest.written c.loop-rest.invariant.sends
    (eqb-true (length c.loop-rest.rest.now) 0 (sym c.is_empty.ensures ∙ c.loop-rest-test.false))
