use Rattle.std.proofs.Common.{[], sym, arith}
use Rattle.dpe_grammar.specs.Values.{texts}
use Rattle.dpe_script.proofs.Settling.{found_put, among_has_place}
use Rattle.dpe_script.proofs.values.put_box.Goals as goal

pub returns-in-None-clause-put : goal.returns-in-None-clause-put
returns-in-None-clause-put c = absurd (among_has_place (texts c.args.names.now) c.args.name.now c.requires.known (sym c.in-None.ensures.place))

pub returns-in-Some-clause-put : goal.returns-in-Some-clause-put
returns-in-Some-clause-put c =
    rw c.set.ensures (found_put [] c.args.sealed.now (texts c.args.names.now) c.args.boxes.now c.in-Some.at c.args.name.now (sym c.in-Some.ensures.place) (omega (arith, c.in-Some.ensures.within)))
