use Rattle.std.proofs.Common.{IfOk, ap, subst}
use Rattle.clap.specs.Words.{App, FailsBy, HasMatchesOf, fault_of, is_simple_and_free}
use Rattle.dpe_audit.specs.Words.{texts}
use Rattle.dpe_audit.proofs.Parsing.{parse_asks, parse_refuses}
use Rattle.dpe_audit.proofs.words.parse.Goals as goal

pub returns-clause-parsed : goal.returns-clause-parsed
returns-clause-parsed c =
    let ws = texts c.args.words.now in
    let result = c.try_get_matches_from.result in
    let kinds = c.try_get_matches_from.ensures.kinds (ap is_simple_and_free c.in_ok-command.ensures) in
    parse_asks ws result (subst (λ (a : App). FailsBy (fault_of a ws) result) c.in_ok-command.ensures kinds)
    (subst (λ (a : App). IfOk result (HasMatchesOf a ws)) c.in_ok-command.ensures c.try_get_matches_from.ensures.matches)

pub returns-clause-refused : goal.returns-clause-refused
returns-clause-refused c =
    let ws = texts c.args.words.now in
    let result = c.try_get_matches_from.result in
    let kinds = c.try_get_matches_from.ensures.kinds (ap is_simple_and_free c.in_ok-command.ensures) in
    parse_refuses ws result (subst (λ (a : App). FailsBy (fault_of a ws) result) c.in_ok-command.ensures kinds)
