use Rattle.std.proofs.Common.{◌≡◌, List, ap, subst, ◌∙◌, arith, length}
use Rattle.std.specs.List.{AllByRecursion}
use Rattle.dpe_serve.specs.Crews.{IsNear}
use Rattle.dpe_connections.specs.Passes.{Seat}
use Rattle.dpe_serve.specs.declared.crew.Post.{Post}
use Rattle.dpe_serve.proofs.Hiring.{hiring_more}
use Rattle.dpe_serve.proofs.crew.hire_all.Goals as goal

pub loop-posts-preserved : goal.loop-posts-preserved
loop-posts-preserved g c =
    let P = Post g.row.D.Denot g.row.E.Denot g.row.D-Conn.Denot in
    let i = c.loop-posts.invariant in
    let h = c.hire.ensures in
    let t = c.take_first-post.ensures in
    let names : length c.hire.new.pass.view.names ≡ length c.loop-posts.pass.view.names = ap (λ (v : Seat). length v.names) h.pass.1 in
    let stake = ap (λ (v : Seat). v.stake) h.pass.1 in
    record {
      hiring =
          hiring_more c.args.desk.now c.args.each c.args.posts.now.items c.loop-posts.posts.items c.take_first-post.new.list.items c.loop-posts.workers.items c.push_reserved.new.self.items c.args.pass.now.view
          c.loop-posts.pass.view c.hire.new.pass.view c.take_first-post.result c.hire.result i.hiring t.first h.hired h.pass.1 c.push_reserved.ensures.items;
      near = (subst (λ (ps : List P). AllByRecursion IsNear ps) t.first i.near).1;
      belongs = (h.pass.0 ∙ i.belongs.0, ap (λ (v : Seat). v.terms) h.pass.1 ∙ i.belongs.1);
      same_desk = h.pass.0 ∙ i.same_desk;
      stake = omega (arith, names, stake, t.len, i.stake);
      room = omega (arith, t.len, i.room, c.push_reserved.ensures.len, c.push_reserved.ensures.capacity);
      kept = t.capacity ∙ i.kept;
    }
