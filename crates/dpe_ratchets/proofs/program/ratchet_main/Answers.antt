use Rattle.std.proofs.Common.{subst}
use Rattle.dpe_ratchets.specs.declared.words.Request.TheVariants.{Seal, Open}
use Rattle.dpe_ratchets.specs.Words.{texts, AskFor}
use Rattle.dpe_ratchets.proofs.Ending.{complete_told}
use Rattle.dpe_ratchets.proofs.program.ratchet_main.Goals as goal

pub returns-in-Seal-clause-complete : goal.returns-in-Seal-clause-complete
returns-in-Seal-clause-complete g c asked bytes is told source sink =
    complete_told (texts c.args.words.now) (Seal c.in-Seal.asked) asked (g.S.Source.left c.args.source.now) (g.S.Source.left c.run_seal.new.source) (g.K.Sink.bytes c.args.sink.now) (g.K.Sink.bytes c.run_seal.new.sink)
    c.run_seal.result bytes (subst (AskFor (texts c.args.words.now)) c.in-Seal.is c.in-Some.ensures.found) is told
    (c.run_seal.ensures.ends (λ four. source (c.run_seal.ensures.source_fault four))) (λ seven. sink (c.run_seal.ensures.sink_fault seven))

pub returns-in-Open-clause-complete : goal.returns-in-Open-clause-complete
returns-in-Open-clause-complete g c asked bytes is told source sink =
    complete_told (texts c.args.words.now) (Open c.in-Open.asked) asked (g.S.Source.left c.args.source.now) (g.S.Source.left c.run_open.new.source) (g.K.Sink.bytes c.args.sink.now) (g.K.Sink.bytes c.run_open.new.sink)
    c.run_open.result bytes (subst (AskFor (texts c.args.words.now)) c.in-Open.is c.in-Some.ensures.found) is told
    (c.run_open.ensures.ends (λ four. source (c.run_open.ensures.source_fault four))) (λ seven. sink (c.run_open.ensures.sink_fault seven))
