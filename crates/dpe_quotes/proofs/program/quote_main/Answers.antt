use Rattle.std.proofs.Common.{subst}
use Rattle.dpe_quotes.specs.declared.words.Request.TheVariants.{Verify, Make}
use Rattle.dpe_quotes.specs.Words.{texts, AskFor}
use Rattle.dpe_quotes.proofs.Telling.{complete_told}
use Rattle.dpe_quotes.proofs.program.quote_main.Goals as goal

pub returns-in-Verify-clause-complete : goal.returns-in-Verify-clause-complete
returns-in-Verify-clause-complete g c asked bytes is told source sink =
    complete_told (texts c.args.words.now) (Verify c.in-Verify.asked) asked (g.S.Source.left c.args.source.now) (g.S.Source.left c.run_verify.new.source) (g.K.Sink.bytes c.args.sink.now) (g.K.Sink.bytes c.run_verify.new.sink)
    c.run_verify.result bytes (subst (AskFor (texts c.args.words.now)) c.in-Verify.is c.in-Some.ensures.found) is told
    (c.run_verify.ensures.ends (λ four. source (c.run_verify.ensures.unread four).0)) (λ seven. sink (c.run_verify.ensures.sink_fault seven))

pub returns-in-Make-clause-complete : goal.returns-in-Make-clause-complete
returns-in-Make-clause-complete g c asked bytes is told source sink =
    complete_told (texts c.args.words.now) (Make c.in-Make.asked) asked (g.S.Source.left c.args.source.now) (g.S.Source.left c.run_make.new.source) (g.K.Sink.bytes c.args.sink.now) (g.K.Sink.bytes c.run_make.new.sink)
    c.run_make.result bytes (subst (AskFor (texts c.args.words.now)) c.in-Make.is c.in-Some.ensures.found) is told
    (c.run_make.ensures.ends (λ four. source (c.run_make.ensures.unread four).0)) (λ seven. sink (c.run_make.ensures.sink_fault seven))
