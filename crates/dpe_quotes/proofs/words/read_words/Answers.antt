use Rattle.std.proofs.Common.{ℕ, List, [], subst}
use Rattle.std.specs.Prelude.{IfNone}
use Rattle.dpe_quotes.specs.Words.{AreFaulty}
use Rattle.dpe_quotes.proofs.Spelling.{three_words}
use Rattle.dpe_quotes.proofs.words.read_words.Goals as goal

pub returns-clause-none : goal.returns-clause-none
returns-clause-none c =
    subst (λ (words : List (List ℕ)). IfNone c.read_three.result (AreFaulty words))
    (three_words c.args.words.now (record { ref_ptr = (0, 0); now = [] }) c.if-words-ne3.false) c.read_three.ensures.none
