use Rattle.dpe_cbor.proofs.Laws as laws
use Rattle.dpe_cbor.proofs.law.one_encoding.Goals as goal

pub returns-clause-one : goal.returns-clause-one
returns-clause-one c = laws.one_encoding

pub returns-clause-prefix : goal.returns-clause-prefix
returns-clause-prefix c = laws.none_begins_another
