use Rattle.dpe_journal.specs.Shared.{entry_in}
use Rattle.std.proofs.Common.{map}
use Rattle.dpe_journal.proofs.shared.seen_is_legal.Goals as goal

pub returns-clause-legal : goal.returns-clause-legal
returns-clause-legal c = c.name-name.ensures.sound.is_legal c.args.desk.now.terms c.requires.1

pub returns-clause-handles : goal.returns-clause-handles
returns-clause-handles c =
    let kind = c.args.desk.now.terms.kind in
    c.handle_laws.ensures kind.seed kind.first (map entry_in c.args.pass.now.view.seen) (c.name-name.ensures.sound.is_legal c.args.desk.now.terms c.requires.1)
