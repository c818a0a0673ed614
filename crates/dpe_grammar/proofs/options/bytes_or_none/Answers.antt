use Rattle.std.proofs.Common.{ℕ, List, Some, length, ap, arith}
use Rattle.dpe_grammar.proofs.Spelling.{spelt_none}
use Rattle.dpe_grammar.proofs.options.bytes_or_none.Goals as goal

pub returns-in-None-clause-value : goal.returns-in-None-clause-value
returns-in-None-clause-value c = let none = c.in-None.ensures in rw (← none) (ap (λ (b : List ℕ). Some b) spelt_none)

pub returns-in-None-clause-size : goal.returns-in-None-clause-size
returns-in-None-clause-size c = let e = ap length spelt_none in omega (arith, e)
