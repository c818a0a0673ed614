use Rattle.std.proofs.Common.{subst}
use Rattle.std.specs.Prelude.{slice_index_or}
use Rattle.dpe_serve.specs.Crews.{Works}
use Rattle.dpe_io.specs.Tells.{random}
use Rattle.dpe_io.specs.Tells.{entrance}
use Rattle.dpe_connections.specs.declared.worker.Worker.{Worker}
use Rattle.dpe_serve.proofs.Hiring.{zip_by_index}
use Rattle.dpe_serve.proofs.crew.work_all.Goals as goal

pub returns : goal.returns
returns g c =
    let W = Worker g.row.D.Denot g.row.E.Denot g.row.D-Conn.Denot in
    let R : W → W → Type 0 =
    Works g.D.Conn.Duplex.told
    (entrance g.D.Door) (random g.E.Entropy) c.args.desk.now in
    let xs = c.args.workers.now in
    let ys = c.for_each_mut.new.s in
    zip_by_index R xs ys c.for_each_mut.auto.s
    (λ i d lt.
    let at = (c.for_each_mut.ensures i d lt).1 in
    subst (λ (x : W). R x (slice_index_or ys i d)) at.argument_is (subst (λ (y : W). R at.argument.now y) at.left at.call))
