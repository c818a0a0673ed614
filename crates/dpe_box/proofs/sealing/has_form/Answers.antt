use Rattle.dpe_box.proofs.Answering.{malformed-exactly}
use Rattle.dpe_box.proofs.sealing.has_form.Goals as goal

pub returns-clause-exact : goal.returns-clause-exact
returns-clause-exact c = malformed-exactly c.is_box.result c.args.sealed.now c.is_box.ensures
