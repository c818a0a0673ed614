use Rattle.std.proofs.Common.{[], replicate, sym, subst, List, ℕ}
use Rattle.dpe_grammar.specs.Values.{texts}
use Rattle.dpe_script.specs.CodeValues.{AreShort}
use Rattle.dpe_script.proofs.Places.{found_in, empty_short}
use Rattle.dpe_script.proofs.values.Values.new.Goals as goal

pub returns-clause-none : goal.returns-clause-none
returns-clause-none c = λ name. (
  found_in (replicate 16 0) (texts c.args.names.handles.items) c.len.result _ name c.in_ok-handles.ensures,
  found_in [] (texts c.args.names.boxes.items) c.len-2.result _ name c.in_ok-boxes.ensures,
)

pub returns-clause-short : goal.returns-clause-short
returns-clause-short c = subst (λ (boxes : List (List ℕ)). AreShort boxes) (sym c.in_ok-boxes.ensures) (empty_short c.len-2.result)
