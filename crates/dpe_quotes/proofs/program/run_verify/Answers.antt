use Rattle.std.proofs.Common.{ℕ, List, take, ap, ◌∙◌, arith}
use Rattle.dpe_quotes.specs.Verdicts.{verdict}
use Rattle.dpe_quotes.proofs.Ending.{took, verify_ends}
use Rattle.dpe_quotes.proofs.program.run_verify.Goals as goal

pub returns-clause-ends : goal.returns-clause-ends
returns-clause-ends g c four =
    let bytes = take c.in-Ok.count c.fill.new.room in
    verify_ends c.args.asked.now (g.S.Source.left c.args.source.now) (g.S.Source.left c.fill.new.source) (g.K.Sink.bytes c.args.sink.now) (g.K.Sink.bytes c.send_status.new.sink)
    bytes c.bytes-2.result.now c.status_of.result c.send_status.result c.verify-found.result
    (took 8648 c.in-Ok.count c.fill.new.room (g.S.Source.left c.args.source.now) (g.S.Source.left c.fill.new.source) (omega arith) c.in-Ok.ensures.bound c.in-Ok.ensures.bytes c.in-Ok.ensures.end)
    (c.verify-found.ensures.verdict ∙ ap (λ (n : List ℕ). verdict c.args.asked.now.seed n bytes) c.bytes.ensures.bytes)
    (c.bytes-2.ensures.bytes ∙ c.line.ensures) c.status_of.ensures.status c.send_status.ensures.statuses c.send_status.ensures.sent c.send_status.ensures.unsent
