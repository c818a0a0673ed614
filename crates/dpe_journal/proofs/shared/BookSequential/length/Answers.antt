use Rattle.dpe_journal.proofs.Sharing.{legal_shared}
use Rattle.dpe_journal.proofs.shared.BookSequential.length.Goals as goal

pub returns-clause-legal : goal.returns-clause-legal
returns-clause-legal c = legal_shared c.args.self.now c.args.self.now.history c.length.ensures.legal
