use Rattle.dpe_serve.proofs.Posting.{posts_fail}
use Rattle.dpe_serve.proofs.Settings.{spelled_at}
use Rattle.dpe_serve.proofs.opening.open_posts.Goals as goal

pub unreachable-requires : goal.unreachable-requires
unreachable-requires g c =
    c.in_default.ensures.none _ (spelled_at c.args.words.now c.loop-word.word-index _ c.loop-word-test.true c.requires.words)

pub returns-in-Err-clause-fails : goal.returns-in-Err-clause-fails
returns-in-Err-clause-fails g c =
    let now = c.loop-word.house in
    let new = c.open_post.new.house in
    posts_fail g.H.Entropy.Entropy.faults
    (g.H.House.doors c.args.house.now) (g.H.House.doors now) (g.H.House.doors new)
    (g.H.House.entropies c.args.house.now) (g.H.House.entropies now) (g.H.House.entropies new)
    c.loop-word.posts.items c.in-Err.entropy c.loop-word.invariant.opens c.in-Err.ensures.fails
