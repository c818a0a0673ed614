use Rattle.dpe_messages.specs.Commands.{request_of}
use Rattle.dpe_model.specs.PlainState.{state_of}
use Rattle.dpe_model.proofs.PlainLemmas.{coded, room_for_serials, verdict_by}
use Rattle.dpe_model.proofs.verdict.verdict.Goals as goal

pub returns-clause-coded : goal.returns-clause-coded
returns-clause-coded c =
    coded c.first_code.result c.args.seed.now (state_of c.args.state.now) c.args.locality (request_of c.args.command.now)
    (verdict_by c.args.seed.now (state_of c.args.state.now) c.args.locality (request_of c.args.command.now) c.first_code.result c.tests.result _ c.first_code.ensures c.tests.ensures c.used-row.ensures)

pub returns-clause-serials : goal.returns-clause-serials
returns-clause-serials c =
    room_for_serials c.first_code.result c.args.seed.now (state_of c.args.state.now) c.args.locality (request_of c.args.command.now)
    (verdict_by c.args.seed.now (state_of c.args.state.now) c.args.locality (request_of c.args.command.now) c.first_code.result c.tests.result _ c.first_code.ensures c.tests.ensures c.used-row.ensures)
