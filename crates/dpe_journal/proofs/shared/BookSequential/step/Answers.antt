use Rattle.dpe_journal.specs.BookViews.{next_entry}
use Rattle.dpe_journal.proofs.Sharing.{legal_kept}
use Rattle.dpe_journal.proofs.shared.BookSequential.step.Goals as goal

pub returns-clause-legal : goal.returns-clause-legal
returns-clause-legal c =
    let old = c.args.self.now in
    legal_kept old c.step.new.self (next_entry old c.args.caller c.args.call.now) c.step.ensures.appends c.step.ensures.legal
