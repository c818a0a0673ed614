use Rattle.std.proofs.Common.{List, ℕ, OnErr, subst, ◌∙◌}
use Rattle.dpe_text.specs.Writing.{AppendsFront}
use Rattle.dpe_serve.proofs.summary.print_summary.Goals as goal

pub returns-clause-front : goal.returns-clause-front
returns-clause-front g c =
    let text = c.bytes.ensures.bytes ∙ c.summary_text.ensures in
    let bytes = g.O.Sink.bytes in
    subst (λ (t : List ℕ). OnErr c.send.result (AppendsFront (bytes c.args.out.now) (bytes c.send.new.out) t)) text c.send.ensures.front
