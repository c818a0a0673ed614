use Rattle.std.proofs.Common.{sym, ◌∙◌, arith}
use Rattle.dpe_script.proofs.Places.{place_here, place_later}
use Rattle.dpe_script.proofs.values.place.Goals as goal

pub returns-then-eq-clause-place : goal.returns-then-eq-clause-place
returns-then-eq-clause-place c = sym (c.loop-at.invariant ∙ place_here c.args.names.now c.loop-at.at _ c.args.name.now (omega arith) (sym c.if-eq.ensures))

pub loop-at-preserved : goal.loop-at-preserved
loop-at-preserved c = c.loop-at.invariant ∙ place_later c.args.names.now c.loop-at.at _ c.args.name.now (omega arith) (sym c.if-eq.ensures)
