use Rattle.std.proofs.Common.{◌≡◌, drop}
use Rattle.dpe_grammar.specs.Values.{texts}
use Rattle.dpe_grammar.specs.Options.{are_single}
use Rattle.dpe_grammar.proofs.options.are_single.Given as goal

abbrev pub invariant-loop-key : goal.invariant-loop-key
invariant-loop-key l = are_single (texts l.keys) (texts l.words) ≡ are_single (texts (drop l.key-index l.keys)) (texts l.words)
