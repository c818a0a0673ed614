use Rattle.std.proofs.Common.{◌<◌, ℕ, List, subst, arith}
use Rattle.std.specs.List.{AllByRecursion}
use Rattle.dpe_desk.specs.Entries.{times}
use Rattle.dpe_serve.specs.Crews.{IsDone}
use Rattle.dpe_connections.specs.declared.worker.Worker.{Worker}
use Rattle.dpe_serve.proofs.Gathering.{gathering_more}
use Rattle.dpe_serve.proofs.crew.dismiss_all.Goals as goal

pub dismiss-requires : goal.dismiss-requires
dismiss-requires g c =
    let W = Worker g.row.D.Denot g.row.E.Denot g.row.D-Conn.Denot in
    let i = c.loop-workers.invariant in
    let both = subst (λ (ws : List W). AllByRecursion (IsDone c.args.desk.now) ws) c.take_first-worker.ensures.first i.done in
    (i.belongs, both.0.belongs)

pub loop-workers-preserved : goal.loop-workers-preserved
loop-workers-preserved g c =
    let W = Worker g.row.D.Denot g.row.E.Denot g.row.D-Conn.Denot in
    let i = c.loop-workers.invariant in
    let d = c.dismiss.ensures in
    let t = c.take_first-worker.ensures in
    let both = subst (λ (ws : List W). AllByRecursion (IsDone c.args.desk.now) ws) t.first i.done in
    let own = subst (λ (n : ℕ). 0 < times n c.args.pass.now.view.names) c.name-name.ensures.name c.name-name.ensures.own in
    record {
      gathering =
          gathering_more c.args.desk.now c.args.workers.items c.loop-workers.workers.items c.take_first-worker.new.list.items c.loop-workers.posts.items c.push_reserved.new.self.items c.args.pass.now.view
          c.loop-workers.pass.view c.dismiss.new.pass.view c.take_first-worker.result c.dismiss.result i.gathering t.first d.joins both.0 own d.post c.push_reserved.ensures.items;
      done = both.1;
      belongs = d.belongs;
      room = omega (arith, t.len, i.room, c.push_reserved.ensures.len, c.push_reserved.ensures.capacity);
    }
