use Rattle.std.proofs.Common.{◌≡◌, sym, length, rules}
use Rattle.dpe_messages.specs.Commands.{request_of}
use Rattle.dpe_messages.proofs.AcceptedLemmas.{accepted_in_ranges}
use Rattle.dpe_model.proofs.PlainLemmas.{kept_valid}
use Rattle.dpe_model.proofs.plain.Plain.execute.Goals as goal

pub obey-requires : goal.obey-requires
obey-requires c = accepted_in_ranges c.args.payload.now (request_of c.in-Ok.command) (sym c.in-Ok.ensures.class)

pub invariant_of-self : goal.invariant_of-self
invariant_of-self c =
    let random : length c.args.random.now ≡ 32 = search rules in
    kept_valid c.self.inside.seed c.self.inside.state c.obey.new.state c.args.locality c.args.random.now c.args.payload.now (request_of c.in-Ok.command) c.obey.result c.requires.locality random
    (sym c.in-Ok.ensures.class) c.self.invariant c.obey.ensures.state c.obey.ensures.unchanged
