use Rattle.std.proofs.Common.{◌≡◌, ℕ, ◌⊎◌, inl, inr, sym, subst, ◌∙◌}
use Rattle.dpe_audit.specs.Finding.{status_of}
use Rattle.dpe_audit.specs.Mode.{Mode}
use Rattle.dpe_audit.specs.Replay.{RunEnds}
use Rattle.dpe_audit.specs.Words.{mode_of, texts}
use Rattle.dpe_audit.specs.declared.audit.End.{End}
use Rattle.dpe_audit.specs.declared.audit.End.TheVariants as ends
use Rattle.dpe_audit.proofs.Completing.{same_request, run_exact, run_wrong, at_no_memory}
use Rattle.dpe_audit.proofs.replay.replay_main.Goals as goal

pub returns-in-NoForm-clause-exact : goal.returns-in-NoForm-clause-exact
returns-in-NoForm-clause-exact g c finding x files sink = absurd (c.in-NoForm.ensures x.mode x.asked)

pub returns-in-NoForm-clause-no_seed : goal.returns-in-NoForm-clause-no_seed
returns-in-NoForm-clause-no_seed g c x files = absurd (c.in-NoForm.ensures x.mode x.asked)

pub returns-in-Request-clause-no_request : goal.returns-in-Request-clause-no_request
returns-in-Request-clause-no_request g c none = absurd (none (mode_of c.in-Request.request) c.in-Request.ensures.0)

pub returns-in-Request-clause-no_memory : goal.returns-in-Request-clause-no_memory
returns-in-Request-clause-no_memory g c is =
    let old = g.F.Shelf.files c.args.shelf.now in
    let new = g.F.Shelf.files c.run.new.shelf in
    let a = g.O.Sink.bytes c.args.out.now in
    let b = g.O.Sink.bytes c.run.new.out in
    let mode = mode_of c.in-Request.request in
    let end : c.run.result ≡ ends.NoMemory = at_no_memory c.run.result (sym c.status_of_end.ensures ∙ is) in
    inr (record {
      mode = mode;
      asked = c.in-Request.ensures.0;
      holds = subst (λ (e : End). RunEnds g.F.File.Source.left g.F.File.Source.faults mode old new a b e) end c.run.ensures.ends;
    })

pub returns-in-Request-clause-exact : goal.returns-in-Request-clause-exact
returns-in-Request-clause-exact g c finding x files sink =
    let old = g.F.Shelf.files c.args.shelf.now in
    let new = g.F.Shelf.files c.run.new.shelf in
    let a = g.O.Sink.bytes c.args.out.now in
    let b = g.O.Sink.bytes c.run.new.out in
    let mode = mode_of c.in-Request.request in
    let same : mode ≡ x.mode = same_request (texts c.args.words.now) mode x.mode c.in-Request.ensures.0 x.asked in
    subst (λ (n : ℕ). (n ≡ status_of finding) ⊎ (n ≡ 3)) (sym c.status_of_end.ensures)
    (run_exact g.F.File.Source.left g.F.File.Source.faults x.mode x.seed x.bytes old new a b x.told x.unread finding x.finds x.verdict c.run.result (g.O.Sink.faults c.args.out.now) (g.O.Sink.faults c.run.new.out)
    (subst (λ (m : Mode). RunEnds g.F.File.Source.left g.F.File.Source.faults m old new a b c.run.result) same c.run.ensures.ends) c.run.ensures.cause x.size files sink)

pub returns-in-Request-clause-no_seed : goal.returns-in-Request-clause-no_seed
returns-in-Request-clause-no_seed g c x files =
    let old = g.F.Shelf.files c.args.shelf.now in
    let new = g.F.Shelf.files c.run.new.shelf in
    let a = g.O.Sink.bytes c.args.out.now in
    let b = g.O.Sink.bytes c.run.new.out in
    let mode = mode_of c.in-Request.request in
    let same : mode ≡ x.mode = same_request (texts c.args.words.now) mode x.mode c.in-Request.ensures.0 x.asked in
    inl (c.status_of_end.ensures
    ∙ run_wrong g.F.File.Source.left g.F.File.Source.faults x.mode x.seed old new a b x.told.first x.told.later x.judges x.told.told x.told.has x.size c.run.result (g.O.Sink.faults c.args.out.now) (g.O.Sink.faults c.run.new.out)
    (subst (λ (m : Mode). RunEnds g.F.File.Source.left g.F.File.Source.faults m old new a b c.run.result) same c.run.ensures.ends) c.run.ensures.cause files)
