use Rattle.std.proofs.Common.{◌≡◌, drop}
use Rattle.std.specs.List.{list_any}
use Rattle.dpe_grammar.specs.Values.{texts}
use Rattle.dpe_grammar.specs.Options.{has_key}
use Rattle.dpe_grammar.proofs.options.is_known.Given as goal

abbrev pub invariant-loop-key : goal.invariant-loop-key
invariant-loop-key l = list_any (λ key. has_key key l.word) (texts l.keys) ≡ list_any (λ key. has_key key l.word) (texts (drop l.key-index l.keys))
