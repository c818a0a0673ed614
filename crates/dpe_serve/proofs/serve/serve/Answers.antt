use Rattle.std.proofs.Common.{ℕ, List, sym, subst}
use Rattle.dpe_io.specs.Told.{Kind}
use Rattle.dpe_io.specs.Tells.{random}
use Rattle.dpe_io.specs.Tells.{entrance}
use Rattle.dpe_serve.specs.Headline.{tells_by, service_by}
use Rattle.dpe_serve.specs.Outcomes.{RunsDoors, RunsNone}
use Rattle.dpe_serve.specs.Words.{setting_of}
use Rattle.dpe_serve.proofs.Outcomes.{ends_served, ends_unserved, moved}
use Rattle.dpe_serve.proofs.serve.serve.Goals as goal

pub returns-in-Ok-serve_doors-clause-ends : goal.returns-in-Ok-serve_doors-clause-ends
returns-in-Ok-serve_doors-clause-ends g c =
    let told = g.H.Door.Conn.Duplex.told in
    let entrance = entrance g.H.Door.Door in
    let random = random g.H.Entropy.Entropy in
    let tells = tells_by g.H.Seed.Source g.H.Journal.Sink told g.H.Door.Door g.H.Entropy.Entropy in
    let s = setting_of c.args.setting in
    let seed = c.args.seed.now in
    let served = c.in-Ok-serve_doors.served in
    let opened = c.in-Ok-journal.ensures in
    let finished = c.finish.ensures in
    let doors = g.H.House.doors in
    let entropies = g.H.House.entropies in
    let Runs = λ (d d' : Kind g.row.H-Door.Denot) (e e' : Kind g.row.H-Entropy.Denot). RunsDoors tells s seed d d' e e' served in
    ends_served tells s seed (g.O.Sink.bytes c.args.out.now) (g.O.Sink.bytes c.finish.new.out)
    (service_by g.H.House c.args.house.now) (service_by g.H.House c.finish.new.house)
    (g.H.House.journals c.journal.new.self) (g.H.House.journals c.serve_doors.new.house) c.in-Ok-journal.journal opened.opens opened.faultless opened.empty c.serve_doors.ensures.journals served
    (moved Runs (doors c.journal.new.self) (doors c.args.house.now) (doors c.serve_doors.new.house) (doors c.finish.new.house)
    (entropies c.journal.new.self) (entropies c.args.house.now) (entropies c.serve_doors.new.house) (entropies c.finish.new.house)
    (sym opened.doors) finished.doors (sym opened.entropies) finished.entropies
    (subst (λ (x : List ℕ). RunsDoors tells s x (doors c.journal.new.self) (doors c.serve_doors.new.house) (entropies c.journal.new.self) (entropies c.serve_doors.new.house) served)
    c.in-Ok.ensures.seed c.in-Ok-serve_doors.ensures.served))
    c.finish.result finished.ends

pub returns-in-Err-serve_doors-clause-ends : goal.returns-in-Err-serve_doors-clause-ends
returns-in-Err-serve_doors-clause-ends g c =
    let told = g.H.Door.Conn.Duplex.told in
    let entrance = entrance g.H.Door.Door in
    let random = random g.H.Entropy.Entropy in
    let tells = tells_by g.H.Seed.Source g.H.Journal.Sink told g.H.Door.Door g.H.Entropy.Entropy in
    let s = setting_of c.args.setting in
    let book = c.in-Err-serve_doors.book in
    let opened = c.in-Ok-journal.ensures in
    let finished = c.finish_empty.ensures in
    let doors = g.H.House.doors in
    let entropies = g.H.House.entropies in
    let Runs = λ (d d' : Kind g.row.H-Door.Denot) (e e' : Kind g.row.H-Entropy.Denot). RunsNone tells s d d' e e' book in
    ends_unserved tells s c.args.seed.now (g.O.Sink.bytes c.args.out.now) (g.O.Sink.bytes c.args.out.now)
    (service_by g.H.House c.args.house.now) (service_by g.H.House c.finish_empty.new.house)
    (g.H.House.journals c.journal.new.self) (g.H.House.journals c.serve_doors.new.house) c.in-Ok-journal.journal opened.opens opened.faultless opened.empty c.serve_doors.ensures.journals book
    (moved Runs (doors c.journal.new.self) (doors c.args.house.now) (doors c.serve_doors.new.house) (doors c.finish_empty.new.house)
    (entropies c.journal.new.self) (entropies c.args.house.now) (entropies c.serve_doors.new.house) (entropies c.finish_empty.new.house)
    (sym opened.doors) finished.doors (sym opened.entropies) finished.entropies c.in-Err-serve_doors.ensures.unserved)
    c.finish_empty.result finished.ends
