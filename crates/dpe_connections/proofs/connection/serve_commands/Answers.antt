use Rattle.std.proofs.Common.{refl, ◌∙◌, take, arith}
use Rattle.dpe_desk.specs.Passes.{own_name}
use Rattle.dpe_connections.specs.Endings.{ending_of}
use Rattle.dpe_connections.proofs.Growing.{grows_self, grows_both, name_stays}
use Rattle.dpe_connections.proofs.Serving.{serving_start, serving_more}
use Rattle.dpe_connections.proofs.Stopping.{stopped_receiving, stops_answering}
use Rattle.dpe_connections.proofs.connection.serve_commands.Goals as goal

pub loop-len-init : goal.loop-len-init
loop-len-init g c =
    let told = g.C.Duplex.told in
    record {
      serving = serving_start (own_name c.args.pass.now.view) c.args.connection c.args.locality c.args.pass.now.view (told c.args.conn.now) (g.E.Entropy.words c.args.entropy.now);
      grows = grows_self c.args.pass.now;
      names = refl;
      stake = refl;
      entropy = refl;
      told = omega arith;
      few = omega arith;
      sound = c.requires.sound;
    }

pub returns-in-Err-clause-served : goal.returns-in-Err-clause-served
returns-in-Err-clause-served g c =
    let told = g.C.Duplex.told in
    stopped_receiving (own_name c.args.pass.now.view) c.args.connection c.args.locality c.loop-len.index c.args.desk.now.terms.capacity c.args.pass.now.view c.loop-len.pass.view
    (told c.args.conn.now) (told c.loop-len.conn) (g.E.Entropy.words c.args.entropy.now) (g.E.Entropy.words c.loop-len.entropy) c.loop-len.invariant.serving
    (told c.receive.new.conn) c.in-Err.end (g.E.Entropy.words c.receive.new.entropy) c.in-Err.ensures.end c.in-Err.ensures.words

pub loop-len-preserved : goal.loop-len-preserved
loop-len-preserved g c =
    let told = g.C.Duplex.told in
    let i = c.loop-len.invariant in
    record {
      serving =
          serving_more (own_name c.args.pass.now.view) c.args.connection c.args.locality c.loop-len.index c.args.pass.now.view c.loop-len.pass.view
          (told c.args.conn.now) (told c.loop-len.conn) (g.E.Entropy.words c.args.entropy.now) (g.E.Entropy.words c.loop-len.entropy) i.serving
          c.answer.new.pass.view (told c.receive.new.conn) (told c.answer.new.conn) (g.E.Entropy.words c.receive.new.entropy) c.new-call.result c.receive.new.random (take c.in-Ok.len c.receive.new.room)
          record { own = name_stays c.args.pass.now c.loop-len.pass i.names; sent_is = c.new-call.ensures } c.in-Ok.ensures.command c.in-Ok.ensures.words c.in-None.ensures.answered;
      grows = grows_both c.args.pass.now c.loop-len.pass c.answer.new.pass i.grows c.answer.ensures.pass;
      names = c.answer.ensures.same.0 ∙ i.names;
      stake = c.answer.ensures.same.1 ∙ i.stake;
      entropy = c.in-Ok.ensures.cause ∙ i.entropy;
      told = omega (arith, c.in-None.ensures.counted.0, i.told);
      few = omega (arith, c.in-None.ensures.counted.0, c.in-None.ensures.counted.1, i.told);
      sound = c.answer.ensures.sound;
    }

pub returns-in-Some-clause-served : goal.returns-in-Some-clause-served
returns-in-Some-clause-served g c =
    let told = g.C.Duplex.told in
    let i = c.loop-len.invariant in
    stops_answering (own_name c.args.pass.now.view) c.args.connection c.args.locality c.loop-len.index c.args.desk.now.terms.capacity c.args.pass.now.view c.loop-len.pass.view
    (told c.args.conn.now) (told c.loop-len.conn) (g.E.Entropy.words c.args.entropy.now) (g.E.Entropy.words c.loop-len.entropy) i.serving
    c.answer.new.pass.view (told c.receive.new.conn) (told c.answer.new.conn) (g.E.Entropy.words c.receive.new.entropy) c.new-call.result c.receive.new.random (take c.in-Ok.len c.receive.new.room)
    (ending_of c.in-Some.end c.answer.new.pass.view.full)
    record { own = name_stays c.args.pass.now c.loop-len.pass i.names; sent_is = c.new-call.ensures } c.in-Ok.ensures.command c.in-Ok.ensures.words c.in-Some.ensures.end
