use Rattle.std.proofs.Common.{inr, take, arith}
use Rattle.dpe_ratchets.specs.Ends.{answer_to}
use Rattle.dpe_ratchets.proofs.Ending.{took, opened_ends, fault_ends}
use Rattle.dpe_ratchets.proofs.program.run_open.Goals as goal

pub returns-in-Ok-open_for-clause-ends : goal.returns-in-Ok-open_for-clause-ends
returns-in-Ok-open_for-clause-ends g c four =
    opened_ends c.args.asked.now (g.S.Source.left c.args.source.now) (g.S.Source.left c.fill.new.source) (g.K.Sink.bytes c.args.sink.now) (g.K.Sink.bytes c.send_status.new.sink)
    (take c.in-Ok.count c.fill.new.room) c.in-Ok-open_for.len (take c.in-Ok-open_for.len c.open_for.new.out) c.send_status.result
    (took 2136 c.in-Ok.count c.fill.new.room (g.S.Source.left c.args.source.now) (g.S.Source.left c.fill.new.source) (omega arith) c.in-Ok.ensures.bound c.in-Ok.ensures.bytes c.in-Ok.ensures.end)
    c.in-Ok-open_for.ensures.answer c.in-Ok-open_for.ensures.data c.send_status.ensures.statuses c.send_status.ensures.sent c.send_status.ensures.unsent

pub returns-in-Err-clause-statuses : goal.returns-in-Err-clause-statuses
returns-in-Err-clause-statuses g c = (inr (inr (inr (inr c.fault_status.ensures.refusal.0))), λ two. omega (arith, c.fault_status.ensures.refusal.1))

pub returns-in-Err-clause-ends : goal.returns-in-Err-clause-ends
returns-in-Err-clause-ends g c four =
    fault_ends c.args.asked.now (g.S.Source.left c.args.source.now) (g.S.Source.left c.fill.new.source) (g.K.Sink.bytes c.args.sink.now) (take c.in-Ok.count c.fill.new.room) c.fault_status.result
    (took 2136 c.in-Ok.count c.fill.new.room (g.S.Source.left c.args.source.now) (g.S.Source.left c.fill.new.source) (omega arith) c.in-Ok.ensures.bound c.in-Ok.ensures.bytes c.in-Ok.ensures.end)
    c.fault_status.ensures.refusal.1 (c.fault_status.ensures.status (answer_to c.args.asked.now (take c.in-Ok.count c.fill.new.room)) c.in-Err.ensures.answer)

pub returns-in-Err-clause-sink_fault : goal.returns-in-Err-clause-sink_fault
returns-in-Err-clause-sink_fault g c = λ seven. absurd (omega (arith, c.fault_status.ensures.refusal.1))
