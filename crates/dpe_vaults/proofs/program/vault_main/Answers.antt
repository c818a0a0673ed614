use Rattle.std.proofs.Common.{inl}
use Rattle.dpe_vaults.specs.Words.{texts}
use Rattle.dpe_vaults.proofs.Leading.{complete_run, leads_run}
use Rattle.dpe_vaults.proofs.program.vault_main.Goals as goal

pub returns-clause-complete : goal.returns-clause-complete
returns-clause-complete g c entries bytes status asked told leads source sink =
    inl (complete_run (texts c.args.words.now) c.in-Some.entries entries (g.S.Source.left c.args.source.now) (g.S.Source.left c.answer_and_flush.new.source)
    (g.K.Sink.bytes c.args.sink.now) (g.K.Sink.bytes c.answer_and_flush.new.sink) bytes c.answer_and_flush.result status c.in-Some.ensures.found asked told leads
    c.answer_and_flush.ensures.ran c.answer_and_flush.ensures.statuses (λ e. source (c.answer_and_flush.ensures.source_fault e))
    (λ e. sink (c.answer_and_flush.ensures.sink_fault e)))

pub returns-clause-leads : goal.returns-clause-leads
returns-clause-leads g c entries bytes asked told is =
    leads_run (texts c.args.words.now) c.in-Some.entries entries (g.S.Source.left c.args.source.now) (g.S.Source.left c.answer_and_flush.new.source)
    (g.K.Sink.bytes c.args.sink.now) (g.K.Sink.bytes c.answer_and_flush.new.sink) bytes c.answer_and_flush.result c.in-Some.ensures.found asked told
    c.answer_and_flush.ensures.ran is
