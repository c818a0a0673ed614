use Rattle.std.proofs.Common.{ap, codes, ◌∙◌}
use Rattle.std.proofs.lemmas.Result.{IfOk-weaker}
use Rattle.clap.specs.Words.{App, with_subcommand}
use Rattle.dpe_audit.specs.Commands.{connecting, judging, listing}
use Rattle.dpe_audit.proofs.words.program_command.Goals as goal

pub returns : goal.returns
returns c =
    let checks = c.in_ok-command.ensures (judging (codes "check")) c.judging_command.ensures.shape
    ∙ ap (λ (app : App). with_subcommand app (judging (codes "check"))) c.bare_command.ensures in
    let lives = c.in_ok-command-2.ensures (judging (codes "live")) c.judging_command-2.ensures.shape
    ∙ ap (λ (app : App). with_subcommand app (judging (codes "live"))) checks in
    let lists = c.in_ok-command-3.ensures listing c.journal_command.ensures.shape ∙ ap (λ (app : App). with_subcommand app listing) lives in
    IfOk-weaker c.with_given-4.result _ _ (λ r more. more ∙ ap (λ (app : App). with_subcommand app connecting) lists)
    (c.with_given-4.ensures connecting c.connecting_command.ensures.shape)
