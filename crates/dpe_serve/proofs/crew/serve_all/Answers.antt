use Rattle.std.proofs.Common.{◌≡◌, List, [], ◌∷◌, ap, sym, subst, ◌∙◌, arith, length, map}
use Rattle.std.proofs.lemmas.List.{length-map}
use Rattle.dpe_desk.specs.Passes.{LaterCallers, own_name}
use Rattle.dpe_journal.specs.Shared.{Shared, shared_from}
use Rattle.dpe_model.specs.History.{Entry, Legal}
use Rattle.dpe_serve.specs.Crews.{IsHired, Works}
use Rattle.dpe_io.specs.Tells.{random}
use Rattle.dpe_io.specs.Tells.{entrance}
use Rattle.dpe_connections.specs.Passes.{Seat}
use Rattle.dpe_connections.specs.declared.worker.Worker.{Worker}
use Rattle.dpe_serve.proofs.Gating.{serve_as_one, closes_of}
use Rattle.dpe_serve.proofs.Hiring.{all_ready, all_ran, all_done, zip_length}
use Rattle.dpe_serve.proofs.Naming.{same_history}
use Rattle.dpe_serve.proofs.crew.serve_all.Goals as goal

pub hire_all-requires-clause-stake : goal.hire_all-requires-clause-stake
hire_all-requires-clause-stake g c =
    let one = ap length c.requires.stake.0 in
    omega (arith, one, c.requires.stake.1, c.requires.few)

pub put_to_work-requires-clause-ready : goal.put_to_work-requires-clause-ready
put_to_work-requires-clause-ready g c =
    λ κs lives. all_ready c.args.desk c.args.each c.args.posts.now.items c.hire_all.new.workers.items c.hire_all.ensures.workers

pub dismiss_all-requires-clause-belongs : goal.dismiss_all-requires-clause-belongs
dismiss_all-requires-clause-belongs g c =
    let hired = c.hire_all.ensures.pass in
    (hired.0 ∙ c.requires.belongs.0.0, ap (λ (v : Seat). v.terms) hired.1 ∙ c.requires.belongs.0.1)

pub dismiss_all-requires-clause-first : goal.dismiss_all-requires-clause-first
dismiss_all-requires-clause-first g c = ap (λ (v : Seat). v.made) c.hire_all.ensures.pass.1 ∙ c.requires.belongs.1.0

pub dismiss_all-requires-clause-workers : goal.dismiss_all-requires-clause-workers
dismiss_all-requires-clause-workers g c =
    let W = Worker g.row.D.Denot g.row.E.Denot g.row.D-Conn.Denot in
    let tell = g.D.Conn.Duplex.told in
    let entrance = entrance g.D.Door in
    let random = random g.E.Entropy in
    let desk = c.args.desk in
    let ws = c.put_to_work.new.workers.items in
    all_done tell entrance random desk c.args.each c.args.posts.now.items ws
    (all_ran tell entrance random desk c.args.each c.args.posts.now.items c.hire_all.new.workers.items ws c.hire_all.ensures.workers c.put_to_work.ensures.works)

pub close-requires-clause-all : goal.close-requires-clause-all
close-requires-clause-all g c =
    let W = Worker g.row.D.Denot g.row.E.Denot g.row.D-Conn.Denot in
    let tell = g.D.Conn.Duplex.told in
    let entrance = entrance g.D.Door in
    let random = random g.E.Entropy in
    let desk = c.args.desk in
    let ws = c.put_to_work.new.workers.items in
    let hired = ap (λ (v : Seat). v.stake) c.hire_all.ensures.pass.1 in
    let first = zip_length (IsHired desk c.args.each) c.args.posts.now.items c.hire_all.new.workers.items c.hire_all.ensures.workers in
    let second = zip_length (Works tell entrance random desk) c.hire_all.new.workers.items ws c.put_to_work.ensures.works in
    omega (arith, c.dismiss_all.ensures.gathers.stake, hired, first, second, c.requires.stake.1, c.requires.few)

pub dismiss_all-requires-clause-room : goal.dismiss_all-requires-clause-room
dismiss_all-requires-clause-room g c =
    let tell = g.D.Conn.Duplex.told in
    let entrance = entrance g.D.Door in
    let random = random g.E.Entropy in
    let desk = c.args.desk in
    let ws = c.put_to_work.new.workers.items in
    let first = zip_length (IsHired desk c.args.each) c.args.posts.now.items c.hire_all.new.workers.items c.hire_all.ensures.workers in
    let second = zip_length (Works tell entrance random desk) c.hire_all.new.workers.items ws c.put_to_work.ensures.works in
    omega (arith, first, second, c.hire_all.ensures.posts.1)

pub returns-clause-legal : goal.returns-clause-legal
returns-clause-legal g c =
    subst (λ (es : List Entry). Legal c.close.result.seed c.close.result.first es) (same_history c.close.result.history) c.close.ensures.legal

pub returns-clause-most : goal.returns-clause-most
returns-clause-most g c = omega (arith, length-map c.close.result.history shared_from, c.close.ensures.most)

pub returns-clause-folded : goal.returns-clause-folded
returns-clause-folded g c =
    c.folded_inputs.ensures c.close.result.seed c.close.result.first c.close.result.history
    (subst (λ (es : List Entry). Legal c.close.result.seed c.close.result.first es) (same_history c.close.result.history) c.close.ensures.legal)

pub returns-clause-handles : goal.returns-clause-handles
returns-clause-handles g c =
    c.handle_laws.ensures c.close.result.seed c.close.result.first c.close.result.history
    (subst (λ (es : List Entry). Legal c.close.result.seed c.close.result.first es) (same_history c.close.result.history) c.close.ensures.legal)

pub returns-clause-served : goal.returns-clause-served
returns-clause-served g c =
    let W = Worker g.row.D.Denot g.row.E.Denot g.row.D-Conn.Denot in
    let tell = g.D.Conn.Duplex.told in
    let entrance = entrance g.D.Door in
    let random = random g.E.Entropy in
    let desk = c.args.desk in
    let each = c.args.each in
    let posts = c.args.posts.now.items in
    let H = c.close.result.history in
    let ws = c.put_to_work.new.workers.items in
    let mid = c.hire_all.new.pass.view in
    let all = c.dismiss_all.new.pass.view in
    let gathers = c.dismiss_all.ensures.gathers in
    let single = subst (λ (v : Seat). v.names ≡ own_name v ∷ []) (sym c.hire_all.ensures.pass.1) c.requires.stake.0 in
    let callers = subst (λ (es : List Shared). LaterCallers es all.names (map shared_from H)) c.requires.opening c.close.ensures.callers in
    serve_as_one tell entrance random desk each posts c.dismiss_all.new.posts.items ws H all (own_name mid)
    (all_ran tell entrance random desk each posts c.hire_all.new.workers.items ws c.hire_all.ensures.workers c.put_to_work.ensures.works)
    c.dismiss_all.ensures.posts gathers.within
    (closes_of desk.terms.capacity mid all ws H single gathers c.close.ensures.own callers c.close.ensures.full)
