use Rattle.std.proofs.Common.{List, ap, ◌∙◌, map, arith}
use Rattle.dpe_io.specs.Tells.{random}
use Rattle.dpe_io.specs.Tells.{entrance}
use Rattle.dpe_serve.specs.Headline.{tells_by}
use Rattle.dpe_serve.specs.Summary.{totals_of}
use Rattle.dpe_serve.specs.declared.crew.Post.{Post}
use Rattle.dpe_serve.proofs.Running.{runs_posts, serve_number, any_failed_posts}
use Rattle.dpe_serve.proofs.serve.serve_posts.Goals as goal

pub add_up-totals-requires : goal.add_up-totals-requires
add_up-totals-requires g c =
    let told = g.H.Door.Conn.Duplex.told in
    let entrance = entrance g.H.Door.Door in
    let random = random g.H.Entropy.Entropy in
    let before = c.args.stock.posts in
    let after = c.serve_all-book.new.posts in
    let same = serve_number told entrance random c.args.stock.desk.terms.capacity c.args.each c.serve_all-book.result.history before.items after.items c.serve_all-book.ensures.served in
    omega (arith, same, c.requires.open.few, c.as_slice.ensures.len, before.ok.0, after.ok.0)

pub hand_back-requires-clause-few : goal.hand_back-requires-clause-few
hand_back-requires-clause-few g c =
    let told = g.H.Door.Conn.Duplex.told in
    let entrance = entrance g.H.Door.Door in
    let random = random g.H.Entropy.Entropy in
    let before = c.args.stock.posts in
    let after = c.serve_all-book.new.posts in
    let same = serve_number told entrance random c.args.stock.desk.terms.capacity c.args.each c.serve_all-book.result.history before.items after.items c.serve_all-book.ensures.served in
    omega (arith, same, c.requires.open.few, before.ok.0, after.ok.0)

pub hand_back-requires-clause-doors : goal.hand_back-requires-clause-doors
hand_back-requires-clause-doors g c =
    let told = g.H.Door.Conn.Duplex.told in
    let entrance = entrance g.H.Door.Door in
    let random = random g.H.Entropy.Entropy in
    let before = c.args.stock.posts in
    let after = c.serve_all-book.new.posts in
    let same = serve_number told entrance random c.args.stock.desk.terms.capacity c.args.each c.serve_all-book.result.history before.items after.items c.serve_all-book.ensures.served in
    omega (arith, same, c.requires.open.doors, before.ok.0, after.ok.0)

pub hand_back-requires-clause-entropies : goal.hand_back-requires-clause-entropies
hand_back-requires-clause-entropies g c =
    let told = g.H.Door.Conn.Duplex.told in
    let entrance = entrance g.H.Door.Door in
    let random = random g.H.Entropy.Entropy in
    let before = c.args.stock.posts in
    let after = c.serve_all-book.new.posts in
    let same = serve_number told entrance random c.args.stock.desk.terms.capacity c.args.each c.serve_all-book.result.history before.items after.items c.serve_all-book.ensures.served in
    omega (arith, same, c.requires.open.entropies, before.ok.0, after.ok.0)

pub returns-clause-runs : goal.returns-clause-runs
returns-clause-runs g c =
    let P = Post g.row.H-Door.Denot g.row.H-Entropy.Denot g.row.H-Door-Conn.Denot in
    let told = g.H.Door.Conn.Duplex.told in
    let entrance = entrance g.H.Door.Door in
    let random = random g.H.Entropy.Entropy in
    let tells = tells_by g.H.Seed.Source g.H.Journal.Sink told g.H.Door.Door g.H.Entropy.Entropy in
    let before = c.args.stock.posts in
    let after = c.serve_all-book.new.posts in
    let H = c.serve_all-book.result.history in
    runs_posts tells c.args.stock.desk.terms.capacity c.args.each before.items after.items (g.H.House.doors c.args.house.now) (g.H.House.doors c.hand_back.new.house)
    (g.H.House.entropies c.args.house.now) (g.H.House.entropies c.hand_back.new.house)
    (record { book = c.serve_all-book.result; totals = c.add_up-totals.result; door_failed = c.any_failed-door_failed.result })
    after.len (omega (arith, after.ok.0)) c.serve_all-book.ensures.served
    c.hand_back.ensures.doors c.hand_back.ensures.door_places c.hand_back.ensures.entropies c.hand_back.ensures.entropy_places
    (c.add_up-totals.ensures ∙ ap (λ (ps : List P). totals_of H (map (λ p. p.tally) ps)) c.as_slice.ensures.value)
    (c.any_failed-door_failed.ensures ∙ ap (λ (ps : List P). any_failed_posts tells ps) c.as_slice-2.ensures.value)
