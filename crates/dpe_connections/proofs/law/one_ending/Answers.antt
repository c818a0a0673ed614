use Rattle.dpe_connections.proofs.Observing.{is_observed, one_ending}
use Rattle.dpe_connections.proofs.law.one_ending.Goals as goal

pub returns-clause-observed : goal.returns-clause-observed
returns-clause-observed c = λ capacity locality entries before after ending none s. is_observed capacity locality entries before after none ending s

pub returns-clause-one : goal.returns-clause-one
returns-clause-one c = one_ending
