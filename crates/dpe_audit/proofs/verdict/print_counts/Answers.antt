use Rattle.std.proofs.Common.{List, ℕ, ap, subst, ◌∙◌}
use Rattle.std.specs.Prelude.{OnErr}
use Rattle.dpe_text.specs.Writing.{AppendsFront}
use Rattle.dpe_audit.specs.Printed.{count_text}
use Rattle.dpe_audit.proofs.verdict.print_counts.Goals as goal

pub returns-clause-front : goal.returns-clause-front
returns-clause-front g c =
    subst (λ (t : List ℕ). OnErr c.print.result (AppendsFront (g.O.Sink.bytes c.args.out.now) (g.O.Sink.bytes c.print.new.out) t))
    (c.bytes.ensures.bytes ∙ c.count_text.ensures ∙ ap (λ n. count_text c.args.tally.entries c.args.tally.refused n) c.live.ensures.live) c.print.ensures.front
