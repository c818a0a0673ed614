use Rattle.std.proofs.Common.{◌≡◌, false, ap, ◌∙◌}
use Rattle.std.proofs.lemmas.Result.{IfOk-weaker, IfOk-at_ok}
use Rattle.clap.specs.Words.{app_of, shape_of, with_subcommand}
use Rattle.clap.specs.declared.builder.command.Command.TheViews.{out-Command as fields_of}
use Rattle.dpe_audit.proofs.words.with_given.Goals as goal

pub returns-in-Ok : goal.returns-in-Ok
returns-in-Ok c shape is =
    let local = IfOk-at_ok (λ given. (fields_of given).has_globals ≡ false) c.in-Ok.is c.requires.local in
    let given = IfOk-at_ok (λ given. shape_of given ≡ shape) c.in-Ok.is is in
    IfOk-weaker c.subcommand.result _ _ (λ r adds. adds.shape local ∙ ap (with_subcommand (app_of c.args.command)) given) c.subcommand.ensures
