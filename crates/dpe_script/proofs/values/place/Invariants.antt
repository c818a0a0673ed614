use Rattle.std.proofs.Common.{◌≡◌, ◌+◌, ℕ, drop}
use Rattle.std.specs.Option.{option_map}
use Rattle.dpe_grammar.specs.Values.{texts}
use Rattle.dpe_script.specs.CodeValues.{place_of}
use Rattle.dpe_script.proofs.values.place.Given as goal

abbrev pub invariant-loop-at : goal.invariant-loop-at
invariant-loop-at l = place_of (texts l.names) l.name ≡ option_map (λ (k : ℕ). l.at + k) (place_of (texts (drop l.at l.names)) l.name)
