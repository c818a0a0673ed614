use Rattle.std.proofs.Common.{refl, ◌∙◌, ℕ, List, sym, subst, take}
use Rattle.std.proofs.lemmas.Result.{err_from_is_err_and}
use Rattle.std.specs.Io.KnownBytes.{Appends}
use Rattle.std.proofs.KnownBytes.{Appends-nil, Appends-trans}
use Rattle.dpe_text.specs.Writing.{AppendsFront}
use Rattle.dpe_audit.specs.Printed.{live_line, live_text}
use Rattle.dpe_audit.proofs.Prints.{contexts_more, contexts_front}
use Rattle.dpe_audit.proofs.verdict.print_contexts.Goals as goal

pub loop-at-init : goal.loop-at-init
loop-at-init g c = (Appends-nil (g.O.Sink.bytes c.args.out.now), refl)

pub loop-at-preserved : goal.loop-at-preserved
loop-at-preserved g c =
    let rows = c.args.core.now.state.rows in
    let a = g.O.Sink.bytes c.args.out.now in
    let b = g.O.Sink.bytes c.loop-at.out in
    let d = g.O.Sink.bytes c.print.new.out in
    let line : Appends b d (live_line c.row.result) = subst (λ (t : List ℕ). Appends b d t) (c.bytes.ensures.bytes ∙ c.live_line.ensures) c.in_ok-print.ensures.ok in (
      subst (λ (t : List ℕ). Appends a d t) (sym (contexts_more rows c.loop-at.at c.row.result c.row.ensures))
          (Appends-trans a b d (live_text (take c.loop-at.at rows)) (live_line c.row.result) c.loop-at.invariant.0 line),
      c.in_ok-print.ensures.cause.kept ∙ c.loop-at.invariant.1,
    )

pub returns-in_err-print-clause-front : goal.returns-in_err-print-clause-front
returns-in_err-print-clause-front g c =
    let p = err_from_is_err_and c.from_residual.result c.from_residual.ensures.1 in
    let b = g.O.Sink.bytes c.loop-at.out in
    let d = g.O.Sink.bytes c.print.new.out in
    let line : AppendsFront b d (live_line c.row.result) = subst (λ (t : List ℕ). AppendsFront b d t) (c.bytes.ensures.bytes ∙ c.live_line.ensures) c.in_err-print.ensures.front in
    rw p.1 (contexts_front c.args.core.now.state.rows c.loop-at.at c.row.result (g.O.Sink.bytes c.args.out.now) b d c.row.ensures c.loop-at.invariant.0 line)
