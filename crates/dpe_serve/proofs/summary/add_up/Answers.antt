use Rattle.std.proofs.Common.{arith}
use Rattle.dpe_serve.proofs.Summing.{sum_more}
use Rattle.dpe_serve.proofs.summary.add_up.Goals as goal

pub overflow_add-full : goal.overflow_add-full
overflow_add-full g c = omega (arith, c.loop-post.invariant.few_full, c.widened-full.ensures.few, c.requires, c.loop-post-test.true)

pub overflow_add-cut : goal.overflow_add-cut
overflow_add-cut g c = omega (arith, c.loop-post.invariant.few_cut, c.widened-cut.ensures.few, c.requires, c.loop-post-test.true)

pub loop-post-preserved : goal.loop-post-preserved
loop-post-preserved g c =
    let i = c.loop-post.invariant in
    let posts = c.args.posts.now in
    let at = c.loop-post.post-index in
    let post = c.post-item.result in
    let within = c.loop-post-test.true in
    let is = c.post-item.is in
    let connections = c.widened-connections in
    let full = c.widened-full in
    let cut = c.widened-cut in
    record {
      connections = sum_more (λ p. p.tally.connections) posts at post c.loop-post.connections connections.result within is i.connections connections.ensures.same;
      full = sum_more (λ p. p.tally.full) posts at post c.loop-post.full full.result within is i.full full.ensures.same;
      cut = sum_more (λ p. p.tally.cut) posts at post c.loop-post.cut cut.result within is i.cut cut.ensures.same;
      few_connections = omega (arith, i.few_connections, connections.ensures.few);
      few_full = omega (arith, i.few_full, full.ensures.few);
      few_cut = omega (arith, i.few_cut, cut.ensures.few);
    }
