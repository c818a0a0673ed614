use Rattle.std.proofs.Common.{◌≡◌, ap, ◌∙◌, arith}
use Rattle.dpe_io.specs.Told.{Kind}
use Rattle.dpe_serve.proofs.Posting.{back_next}
use Rattle.dpe_serve.proofs.opening.hand_back.Goals as goal

out_stays : {T : Type 0} (a b : Kind T) → a ≡ b → a.out ≡ b.out
out_stays a b same = ap (λ (k : Kind _). k.out) same

pub loop-posts-preserved : goal.loop-posts-preserved
loop-posts-preserved g c =
    let old = c.args.house.now in
    let now = c.loop-posts.house in
    let mid = c.take_door.new.self in
    let new = c.take_entropy.new.self in
    let i = c.loop-posts.invariant in
    let first = c.take_first-door in
    let door = c.take_door.ensures in
    let entropy = c.take_entropy.ensures in
    let doors_out = out_stays (g.H.House.doors new) (g.H.House.doors mid) entropy.doors in
    let entropies_out = out_stays (g.H.House.entropies mid) (g.H.House.entropies now) door.entropies in
    record {
      back =
          back_next g.H.Door.Door.faults g.H.Entropy.Entropy.faults c.args.posts.now.items (g.H.House.doors old)
          (g.H.House.entropies old) c.loop-posts.posts.items first.new.list.items first.result (g.H.House.doors now)
          (g.H.House.doors mid) (g.H.House.doors new) (g.H.House.entropies now) (g.H.House.entropies mid)
          (g.H.House.entropies new) c.loop-posts.place i.back first.ensures.first door.back door.places door.entropies
          entropy.back entropy.places entropy.doors;
      few = omega (arith, i.few, first.ensures.len);
      doors = omega (arith, i.doors, first.ensures.len, door.back.out, doors_out);
      entropies = omega (arith, i.entropies, first.ensures.len, entropy.back.out, entropies_out);
      seeds = entropy.seeds ∙ (door.seeds ∙ i.seeds);
      journals = entropy.journals ∙ (door.journals ∙ i.journals);
    }
