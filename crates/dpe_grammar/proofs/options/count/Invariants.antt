use Rattle.std.proofs.Common.{◌≡◌, ◌+◌, ◌≤◌, drop}
use Rattle.std.specs.Prelude.{count_by}
use Rattle.dpe_grammar.specs.Values.{texts}
use Rattle.dpe_grammar.specs.Options.{has_key}
use Rattle.dpe_grammar.proofs.options.count.Given as goal

abbrev pub invariant-loop-word : goal.invariant-loop-word
invariant-loop-word l =
    (count_by (has_key l.key) (texts l.words) ≡ l.count + count_by (has_key l.key) (texts (drop l.word-index l.words)))
    × (l.count ≤ l.word-index)
