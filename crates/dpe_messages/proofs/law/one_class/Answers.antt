use Rattle.dpe_messages.proofs.OneClassLemmas as lemmas
use Rattle.dpe_messages.proofs.law.one_class.Goals as goal

pub returns : goal.returns
returns c = lemmas.one_class
