use Rattle.std.proofs.Common.{List, ℕ, subst, ◌∙◌}
use Rattle.std.specs.Prelude.{OnErr}
use Rattle.dpe_text.specs.Writing.{AppendsFront}
use Rattle.dpe_audit.proofs.verdict.print_bytes.Goals as goal

pub returns-clause-front : goal.returns-clause-front
returns-clause-front g c =
    subst (λ (t : List ℕ). OnErr c.print.result (AppendsFront (g.O.Sink.bytes c.args.out.now) (g.O.Sink.bytes c.print.new.out) t))
    (c.bytes.ensures.bytes ∙ c.named_bytes.ensures) c.print.ensures.front
