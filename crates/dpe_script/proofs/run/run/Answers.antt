-- The loop over the lines.
use Rattle.std.proofs.Common.{refl}
use Rattle.dpe_script.specs.CodeScript.{lines_are}
use Rattle.dpe_script.specs.CodeValues.{values_of}
use Rattle.dpe_script.proofs.Running.{running_start}
use Rattle.dpe_script.proofs.Lines.{still_below, going_on, going_stops, going_caused, going_done}
use Rattle.dpe_script.proofs.run.run.Goals as goal

pub loop-line-init : goal.loop-line-init
loop-line-init g c = record {
  running =
      running_start g.L.Duplex.told (lines_are c.args.lines.now) c.args.links.now (g.O.Sink.bytes c.args.out.now)
      (values_of c.args.values.now) c.requires.fresh;
  kept = λ k d lt. (refl, refl);
  out = refl;
  ready = c.requires.ready;
  names = refl;
  size = refl;
}

pub loop-line-preserved : goal.loop-line-preserved
loop-line-preserved g c =
    going_on g.L.Duplex.told (lines_are c.args.lines.now) c.args.lines.now c.loop-line.line-index _
    c.args.links.now c.loop-line.links c.ask_on.new.links (g.O.Sink.bytes c.args.out.now) (g.O.Sink.bytes c.loop-line.out) (g.O.Sink.bytes c.ask_on.new.out)
    (g.O.Sink.faults c.args.out.now) (g.O.Sink.faults c.loop-line.out) (g.O.Sink.faults c.ask_on.new.out) c.args.values.now c.loop-line.values c.ask_on.new.values
    c.loop-line-test.true c.loop-line.invariant (still_below _ _ _ (c.requires.link c.loop-line.line-index _ c.loop-line-test.true) c.loop-line.auto.links) c.ask_on.auto.links
    c.ask_on.ensures.others c.in-Ok.ensures.ok c.in-Ok.ensures.cause c.ask_on.ensures.ready c.ask_on.ensures.names

pub returns-in-Err-clause-stops : goal.returns-in-Err-clause-stops
returns-in-Err-clause-stops g c =
    going_stops g.L.Duplex.told (lines_are c.args.lines.now) c.args.lines.now c.loop-line.line-index _
    c.args.links.now c.loop-line.links c.ask_on.new.links (g.O.Sink.bytes c.args.out.now) (g.O.Sink.bytes c.loop-line.out) (g.O.Sink.bytes c.ask_on.new.out)
    (g.O.Sink.faults c.args.out.now) (g.O.Sink.faults c.loop-line.out) (g.O.Sink.faults c.ask_on.new.out) c.args.values.now c.loop-line.values c.ask_on.new.values
    c.loop-line-test.true c.loop-line.invariant (still_below _ _ _ (c.requires.link c.loop-line.line-index _ c.loop-line-test.true) c.loop-line.auto.links) c.ask_on.auto.links
    c.ask_on.ensures.others c.in-Err.cause c.in-Err.ensures.cause c.in-Err.ensures.fault

pub returns-in-Err-clause-cause : goal.returns-in-Err-clause-cause
returns-in-Err-clause-cause g c =
    going_caused g.L.Duplex.told (lines_are c.args.lines.now) c.args.lines.now c.loop-line.line-index _
    c.args.links.now c.loop-line.links c.ask_on.new.links (g.O.Sink.bytes c.args.out.now) (g.O.Sink.bytes c.loop-line.out) (g.O.Sink.bytes c.ask_on.new.out)
    (g.O.Sink.faults c.args.out.now) (g.O.Sink.faults c.loop-line.out) (g.O.Sink.faults c.ask_on.new.out) c.args.values.now c.loop-line.values c.ask_on.new.values
    c.loop-line-test.true c.loop-line.invariant (still_below _ _ _ (c.requires.link c.loop-line.line-index _ c.loop-line-test.true) c.loop-line.auto.links) c.ask_on.auto.links
    c.ask_on.ensures.others c.in-Err.cause c.in-Err.ensures.cause

pub returns-clause-whole : goal.returns-clause-whole
returns-clause-whole g c =
    going_done g.L.Duplex.told (lines_are c.args.lines.now) c.args.lines.now c.loop-line.line-index
    c.args.links.now c.loop-line.links (g.O.Sink.bytes c.args.out.now) (g.O.Sink.bytes c.loop-line.out)
    (g.O.Sink.faults c.args.out.now) (g.O.Sink.faults c.loop-line.out) c.args.values.now c.loop-line.values c.loop-line-test.false c.loop-line.invariant
