use Rattle.std.proofs.Common.{◌≡◌, drop}
use Rattle.dpe_grammar.specs.Values.{texts}
use Rattle.dpe_script.specs.Names.{is_among}
use Rattle.dpe_script.proofs.names.is_among.Given as goal

abbrev pub invariant-loop-other : goal.invariant-loop-other
invariant-loop-other l = is_among (texts l.names) l.name ≡ is_among (texts (drop l.other-index l.names)) l.name
