use Rattle.dpe_messages.proofs.AcceptedLemmas as lemmas
use Rattle.dpe_messages.proofs.law.accepted_in_ranges.Goals as goal

pub returns-clause-ranges : goal.returns-clause-ranges
returns-clause-ranges c = lemmas.accepted_in_ranges

pub returns-clause-bytes : goal.returns-clause-bytes
returns-clause-bytes c = lemmas.accepted_are_bytes
