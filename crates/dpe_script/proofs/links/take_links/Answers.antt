use Rattle.std.proofs.Common.{refl, sym, ◌∙◌}
use Rattle.std.specs.Vec.Iter.{into_iter_items}
use Rattle.dpe_script.proofs.Opening.{taking_start, taking_out, taking_more, taking_done}
use Rattle.dpe_script.proofs.links.take_links.Goals as goal

pub loop-link-init : goal.loop-link-init
loop-link-init g c = record {
  taking =
      taking_start g.D.Link.Duplex.told c.args.links.items (into_iter_items c.into_iter-links.result) (g.D.Dock.links c.args.dock.now) c.into_iter-links.ensures.rest;
  scripts = refl;
}

pub loop-link-preserved : goal.loop-link-preserved
loop-link-preserved g c = record {
  taking =
      taking_more g.D.Link.Duplex.told c.args.links.items (into_iter_items c.loop-link.links) (into_iter_items c.next.new.self) c.in-Some.link c.loop-link.place
      (g.D.Dock.links c.args.dock.now) (g.D.Dock.links c.loop-link.dock) (g.D.Dock.links c.take_link.new.self) c.loop-link.invariant.taking c.in-Some.ensures.items
      c.take_link.ensures.back c.take_link.ensures.places;
  scripts = c.take_link.ensures.scripts ∙ c.loop-link.invariant.scripts;
}

pub take_link-requires : goal.take_link-requires
take_link-requires g c =
    taking_out g.D.Link.Duplex.told c.args.links.items (into_iter_items c.loop-link.links) (into_iter_items c.next.new.self) c.in-Some.link c.loop-link.place
    (g.D.Dock.links c.args.dock.now) (g.D.Dock.links c.loop-link.dock) c.loop-link.invariant.taking c.in-Some.ensures.items c.requires.out

pub returns : goal.returns
returns g c = record {
  returned =
      taking_done g.D.Link.Duplex.told c.args.links.items (into_iter_items c.loop-link.links) c.loop-link.place (g.D.Dock.links c.args.dock.now) (g.D.Dock.links c.loop-link.dock)
      c.loop-link.invariant.taking (sym c.loop-link.links.rest.ok.0 ∙ c.in_default.ensures.cases.0);
  scripts = c.loop-link.invariant.scripts;
}
