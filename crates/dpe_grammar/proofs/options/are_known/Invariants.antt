use Rattle.std.proofs.Common.{◌≡◌, drop}
use Rattle.dpe_grammar.specs.Values.{texts}
use Rattle.dpe_grammar.specs.Options.{are_known}
use Rattle.dpe_grammar.proofs.options.are_known.Given as goal

abbrev pub invariant-loop-word : goal.invariant-loop-word
invariant-loop-word l = are_known (texts l.keys) (texts l.words) ≡ are_known (texts l.keys) (texts (drop l.word-index l.words))
