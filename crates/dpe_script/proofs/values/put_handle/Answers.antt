use Rattle.std.proofs.Common.{replicate, sym, arith}
use Rattle.dpe_grammar.specs.Values.{texts}
use Rattle.dpe_script.proofs.Settling.{found_put, among_has_place}
use Rattle.dpe_script.proofs.values.put_handle.Goals as goal

pub returns-in-None : goal.returns-in-None
returns-in-None c = absurd (among_has_place (texts c.args.names.now) c.args.name.now c.requires.known (sym c.in-None.ensures.place))

pub returns-in-Some : goal.returns-in-Some
returns-in-Some c =
    found_put (replicate 16 0) c.args.handle (texts c.args.names.now) c.args.handles.now c.in-Some.at c.args.name.now (sym c.in-Some.ensures.place) (omega (arith, c.in-Some.ensures.within))
