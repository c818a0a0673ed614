use Rattle.std.proofs.Common.{refl, arith}
use Rattle.dpe_io.specs.Tells.{random}
use Rattle.dpe_io.specs.Tells.{entrance}
use Rattle.dpe_serve.specs.Headline.{tells_by}
use Rattle.dpe_serve.specs.Setting.{texts}
use Rattle.dpe_serve.specs.Words.{setting_of}
use Rattle.dpe_serve.proofs.Running.{runs_doors, runs_none, near_posts, posts_number, doors_out, spare_out}
use Rattle.dpe_serve.proofs.serve.serve_doors.Goals as goal

pub serve_posts-requires-clause-open : goal.serve_posts-requires-clause-open
serve_posts-requires-clause-open g c lives bounds =
    let posts = c.open_posts.new.posts in
    let s = c.requires.stock in
    let number = posts_number posts.items c.args.setting.doors.now c.in-Ok.ensures.localities in
    let out =
    doors_out (g.H.House.doors c.args.house.now) (g.H.House.doors c.open_posts.new.house) (g.H.House.entropies c.args.house.now)
    (g.H.House.entropies c.open_posts.new.house) posts.items c.in-Ok.ensures.opens in
    record {
      opening = s.opening;
      belongs = s.belongs;
      whole = s.whole;
      few = omega (arith, number, posts.ok.0, c.requires.read.number);
      workers = (s.workers.0, omega (arith, number, posts.ok.0, s.workers.1));
      doors = omega (arith, posts.ok.0, out.0);
      entropies = omega (arith, posts.ok.0, out.1);
    }

pub serve_posts-requires-clause-near : goal.serve_posts-requires-clause-near
serve_posts-requires-clause-near g c lives bounds =
    near_posts c.open_posts.new.posts.items (texts c.args.setting.doors.now) c.in-Ok.ensures.localities c.requires.read.doors

pub give_up-requires-clause-spare : goal.give_up-requires-clause-spare
give_up-requires-clause-spare g c =
    let posts = c.open_posts.new.posts in
    spare_out g.H.Entropy.Entropy.faults (g.H.House.doors c.args.house.now) (g.H.House.doors c.open_posts.new.house) (g.H.House.entropies c.args.house.now)
    (g.H.House.entropies c.open_posts.new.house) posts.items posts.len c.in-Err.spare (omega (arith, posts.ok.0)) c.in-Err.ensures.fails

pub returns-in-Ok-clause-served : goal.returns-in-Ok-clause-served
returns-in-Ok-clause-served g c =
    let told = g.H.Door.Conn.Duplex.told in
    let entrance = entrance g.H.Door.Door in
    let random = random g.H.Entropy.Entropy in
    let tells = tells_by g.H.Seed.Source g.H.Journal.Sink told g.H.Door.Door g.H.Entropy.Entropy in
    let posts = c.open_posts.new.posts in
    let s = c.requires.stock in
    let e = c.serve_posts.ensures in
    runs_doors tells (setting_of c.args.setting) posts.items (g.H.House.doors c.args.house.now) (g.H.House.doors c.open_posts.new.house) (g.H.House.doors c.serve_posts.new.house)
    (g.H.House.entropies c.args.house.now) (g.H.House.entropies c.open_posts.new.house) (g.H.House.entropies c.serve_posts.new.house)
    (texts c.args.setting.doors.now) c.args.stock.desk.terms.kind c.args.stock.desk.terms.capacity c.serve_posts.result
    c.in-Ok.ensures.opens c.in-Ok.ensures.fresh c.in-Ok.ensures.localities refl s.first s.capacity e.kind e.legal e.most e.folded e.handles e.runs

pub returns-in-Err-clause-unserved : goal.returns-in-Err-clause-unserved
returns-in-Err-clause-unserved g c =
    let told = g.H.Door.Conn.Duplex.told in
    let entrance = entrance g.H.Door.Door in
    let random = random g.H.Entropy.Entropy in
    let tells = tells_by g.H.Seed.Source g.H.Journal.Sink told g.H.Door.Door g.H.Entropy.Entropy in
    let posts = c.open_posts.new.posts in
    let e = c.give_up.ensures in
    runs_none tells (setting_of c.args.setting) posts.items (g.H.House.doors c.args.house.now) (g.H.House.doors c.open_posts.new.house) (g.H.House.doors c.give_up.new.house)
    (g.H.House.entropies c.args.house.now) (g.H.House.entropies c.open_posts.new.house) (g.H.House.entropies c.give_up.new.house)
    posts.len c.args.setting.doors.now c.in-Err.spare c.args.stock.desk.terms.kind c.give_up.result refl (omega (arith, posts.ok.0))
    c.in-Err.ensures.fresh c.in-Err.ensures.fails c.in-Err.ensures.fewer e.returns c.requires.stock.first e.kind e.empty
