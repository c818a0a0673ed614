use Rattle.std.proofs.Common.{◌≡◌, drop}
use Rattle.dpe_grammar.specs.Values.{texts}
use Rattle.dpe_grammar.specs.Options.{value_at}
use Rattle.dpe_grammar.proofs.options.value_at.Given as goal

abbrev pub invariant-loop-word : goal.invariant-loop-word
invariant-loop-word l = value_at l.key (texts l.words) ≡ value_at l.key (texts (drop l.word-index l.words))
