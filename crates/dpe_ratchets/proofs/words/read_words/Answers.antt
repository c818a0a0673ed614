use Rattle.std.proofs.Common.{ℕ, List, [], subst}
use Rattle.std.specs.Prelude.{IfNone}
use Rattle.dpe_ratchets.specs.Words.{AreFaulty}
use Rattle.dpe_ratchets.proofs.Spelling.{six_words}
use Rattle.dpe_ratchets.proofs.words.read_words.Goals as goal

pub returns-clause-none : goal.returns-clause-none
returns-clause-none c =
    subst (λ (words : List (List ℕ)). IfNone c.read_six.result (AreFaulty words))
    (six_words c.args.words.now (record { ref_ptr = (0, 0); now = [] }) c.if-words-ne6.false) c.read_six.ensures.none
