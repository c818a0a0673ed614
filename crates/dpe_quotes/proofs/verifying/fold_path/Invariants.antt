use Rattle.std.proofs.Common.{◌≡◌, ◌+◌, ◌-◌, List, length}
use Rattle.dpe_inputs.specs.declared.Input.{Input}
use Rattle.dpe_inputs.specs.Cdi.{attest_cdi}
use Rattle.dpe_quotes.specs.Reading.{path_in}
use Rattle.dpe_quotes.proofs.Folding.{prepended}
use Rattle.dpe_quotes.proofs.verifying.fold_path.Given as goal

abbrev pub invariant-loop-layer : goal.invariant-loop-layer
invariant-loop-layer l =
    ((done : List Input) × (l.cdi ≡ attest_cdi l.fn.seed done) × (path_in l.fn.depth l.initial.reader ≡ prepended done (path_in (l.fn.depth - l._layer) l.reader)))
    × (l.reader.at + length l.reader.rest ≡ l.initial.reader.at + length l.initial.reader.rest)
