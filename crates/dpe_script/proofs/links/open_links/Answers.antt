use Rattle.std.proofs.Common.{◌≡◌, ◌+◌, refl, ap, length, arith, ◌∙◌}
use Rattle.dpe_script.proofs.Opening.{opening_start, opening_more, opening_fails}
use Rattle.dpe_script.proofs.links.open_links.Goals as goal

pub loop-path-init : goal.loop-path-init
loop-path-init g c = record {
  opening = opening_start (λ link. ((g.D.Link.Duplex.told link).read_faults ≡ 0) × ((g.D.Link.Duplex.told link).write_faults ≡ 0)) (g.D.Dock.links c.args.dock.now) c.args.links.now.items c.requires.none;
  count = c.args.links.now.ok.0 ∙ ap length c.requires.none;
  room = c.requires.room;
  scripts = refl;
}

pub loop-path-preserved : goal.loop-path-preserved
loop-path-preserved g c = record {
  opening =
      opening_more (λ link. ((g.D.Link.Duplex.told link).read_faults ≡ 0) × ((g.D.Link.Duplex.told link).write_faults ≡ 0)) (g.D.Dock.links c.args.dock.now) (g.D.Dock.links c.loop-path.dock) (g.D.Dock.links c.link.new.self) c.loop-path.links.items c.push_reserved.new.self.items c.in-Ok.link
      c.loop-path.path-index c.loop-path.invariant.opening c.in-Ok.ensures.opens c.in-Ok.ensures.faultless c.push_reserved.ensures.items;
  count = c.push_reserved.ensures.len ∙ ap (λ n. n + 1) c.loop-path.invariant.count;
  room = (let e = c.push_reserved.ensures.capacity in let r = c.loop-path.invariant.room in omega arith);
  scripts = c.in-Ok.ensures.scripts ∙ c.loop-path.invariant.scripts;
}

pub returns-in-Err-clause-fewer : goal.returns-in-Err-clause-fewer
returns-in-Err-clause-fewer g c =
    opening_fails (λ link. ((g.D.Link.Duplex.told link).read_faults ≡ 0) × ((g.D.Link.Duplex.told link).write_faults ≡ 0)) (g.D.Dock.links c.args.dock.now) (g.D.Dock.links c.loop-path.dock) (g.D.Dock.links c.link.new.self) c.loop-path.links.items c.loop-path.path-index _
    c.loop-path.invariant.opening c.in-Err.ensures.opens c.loop-path-test.true

pub returns-clause-all : goal.returns-clause-all
returns-clause-all g c = let s = c.loop-path.invariant.opening.size in omega arith
