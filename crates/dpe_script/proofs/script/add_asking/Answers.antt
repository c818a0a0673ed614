use Rattle.dpe_script.specs.CodeNames.{names_of}
use Rattle.dpe_script.proofs.Knowing.{known_after}
use Rattle.dpe_script.proofs.script.add_asking.Goals as goal

pub returns-in-Ok-push-clause-known : goal.returns-in-Ok-push-clause-known
returns-in-Ok-push-clause-known c =
    known_after (names_of c.args.script.now.names) (names_of c.introduce.new.self) c.args.script.now.lines.items c.push.new.self.items
    (record { number = c.args.number; link = c.args.asking.now.link; act = c.args.asking.now.act }) c.in-Ok.ensures c.in-Ok-push.ensures.items c.requires.known
