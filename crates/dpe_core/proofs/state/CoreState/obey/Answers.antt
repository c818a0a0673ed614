use Rattle.dpe_core.proofs.state.CoreState.obey.Goals as goal

pub returns-in-GetProfile-clause-obeys : goal.returns-in-GetProfile-clause-obeys
returns-in-GetProfile-clause-obeys g c = rw c.in-GetProfile.is (c.get_profile.ensures.obeys c.args.locality c.args.random.now)

pub returns-in-Destroy-clause-obeys : goal.returns-in-Destroy-clause-obeys
returns-in-Destroy-clause-obeys g c = rw c.in-Destroy.is (c.destroy.ensures.obeys c.args.random.now)
