use Rattle.std.proofs.Common.{◌≡◌, ℕ, Bool, cond, ap, arith}
use Rattle.dpe_journal.specs.Stored.{entry_of}
use Rattle.dpe_serve.proofs.Summing.{refused_more}
use Rattle.dpe_serve.proofs.summary.count_refused.Goals as goal
use Rattle.dpe_serve.proofs.summary.count_refused.Goals.{then-is_refused, else-is_refused}

pub loop-at-preserved : goal.loop-at-preserved
loop-at-preserved c =
    let H = c.args.book.now.history in
    let at = c.loop-at.at in
    let more = refused_more H at (entry_of c.entry.result.now) c.is_refused.result c.entry.ensures c.is_refused.ensures in
    elim c.if-is_refused.branch [
      | then-is_refused w ↦ (
          let one : cond {A = ℕ} c.is_refused.result 1 0 ≡ 1 = ap (λ (b : Bool). cond {A = ℕ} b 1 0) w.if-is_refused.true in
          omega (arith, more, one, w.refused-is, c.loop-at.invariant))
      | else-is_refused w ↦ (
          let none : cond {A = ℕ} c.is_refused.result 1 0 ≡ 0 = ap (λ (b : Bool). cond {A = ℕ} b 1 0) w.if-is_refused.false in
          omega (arith, more, none, w.refused-is, c.loop-at.invariant))
    ]
