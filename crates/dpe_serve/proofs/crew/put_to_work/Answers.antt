use Rattle.std.proofs.Common.{◌≡◌, List, ap, sym, subst, arith, length, drop}
use Rattle.std.specs.Prelude.{All}
use Rattle.std.specs.List.{AllZip}
use Rattle.dpe_serve.specs.Crews.{IsReady, Works}
use Rattle.dpe_io.specs.Tells.{random}
use Rattle.dpe_io.specs.Tells.{entrance}
use Rattle.dpe_connections.specs.declared.worker.Worker.{Worker}
use Rattle.dpe_serve.proofs.Hiring.{written_back, zip_length}
use Rattle.dpe_serve.proofs.crew.put_to_work.Goals as goal

pub work_all-requires-clause-ready : goal.work_all-requires-clause-ready
work_all-requires-clause-ready g c =
    let W = Worker g.row.D.Denot g.row.E.Denot g.row.D-Conn.Denot in
    λ κs lives. subst (λ (vs : List W). All (IsReady c.args.desk.now) vs) (sym c.as_mut_slice.ensures.value) c.requires.ready

pub returns : goal.returns
returns g c =
    let W = Worker g.row.D.Denot g.row.E.Denot g.row.D-Conn.Denot in
    let R : W → W → Type 0 =
    Works g.D.Conn.Duplex.told
    (entrance g.D.Door) (random g.E.Entropy) c.args.desk.now in
    let vs = c.args.workers.now.items in
    let ws = c.work_all.new.workers in
    let worked = subst (λ (us : List W). AllZip R us ws) c.as_mut_slice.ensures.value c.work_all.ensures in
    let same = zip_length R vs ws worked in
    let len = c.args.workers.now.len in
    let lent = ap length c.as_mut_slice.ensures.value in
    let whole : len ≡ length ws = omega (arith, same, lent, c.as_mut_slice.ensures.len) in
    record { works = subst (λ (us : List W). AllZip R vs us) (sym (written_back len ws (drop (length ws) vs) whole)) worked }
