use Rattle.std.proofs.Common.{sym, subst}
use Rattle.dpe_io.specs.Told.{Kind}
use Rattle.dpe_io.specs.Tells.{random}
use Rattle.dpe_io.specs.Tells.{entrance}
use Rattle.dpe_serve.specs.Headline.{tells_by, service_by, house_by, ServiceView}
use Rattle.dpe_serve.specs.Outcomes.{EndsFrom}
use Rattle.dpe_serve.specs.Seeds.{HasSeed}
use Rattle.dpe_serve.specs.Words.{setting_of}
use Rattle.dpe_serve.proofs.Outcomes.{ends_from, same_service}
use Rattle.dpe_serve.proofs.serve.run.Goals as goal

pub returns-in-Holds-clause-ends : goal.returns-in-Holds-clause-ends
returns-in-Holds-clause-ends g c =
    let told = g.H.Door.Conn.Duplex.told in
    let entrance = entrance g.H.Door.Door in
    let random = random g.H.Entropy.Entropy in
    let tells = tells_by g.H.Seed.Source g.H.Journal.Sink told g.H.Door.Door g.H.Entropy.Entropy in
    let s = setting_of c.args.setting in
    let seed = c.in-Holds.seed in
    let read = c.in-Holds.ensures in
    let old = g.O.Sink.bytes c.args.out.now in
    let new = g.O.Sink.bytes c.serve.new.out in
    let doors = g.H.House.doors in
    let journals = g.H.House.journals in
    let entropies = g.H.House.entropies in
    let V = ServiceView g.row.H-Door.Denot g.row.H-Journal.Denot g.row.H-Entropy.Denot in
    let mid = c.read_seed.new.house in
    ends_from tells s seed old new (house_by g.H.House c.args.house.now) (house_by g.H.House c.serve.new.house)
    (subst (λ (k : Kind g.row.H-Seed.Denot). HasSeed g.H.Seed.Source.left g.H.Seed.Source.faults (g.H.House.seeds c.args.house.now) k seed) (sym c.serve.ensures.seeds) read.reads)
    c.serve.result
    (subst (λ (v : V). EndsFrom tells s seed old new v (service_by g.H.House c.serve.new.house) c.serve.result)
    (same_service (doors mid) (doors c.args.house.now) (journals mid) (journals c.args.house.now) (entropies mid) (entropies c.args.house.now) read.doors read.journals read.entropies)
    c.serve.ensures.ends)
