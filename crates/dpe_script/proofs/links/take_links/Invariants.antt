use Rattle.std.proofs.Common.{◌≡◌}
use Rattle.std.specs.Vec.Iter.{into_iter_items, into_iter_len}
use Rattle.dpe_script.proofs.Opening.{IsTaking}
use Rattle.dpe_script.proofs.links.take_links.Given as goal

abbrev pub invariant-loop-link : goal.invariant-loop-link
invariant-loop-link g l = record {
  taking :
      IsTaking g.D.Link.Duplex.told l.fn.links.items (into_iter_items l.links) l.place
      (g.D.Dock.links l.initial.dock) (g.D.Dock.links l.dock);
  scripts : g.D.Dock.scripts l.dock ≡ g.D.Dock.scripts l.initial.dock;
}

abbrev pub decreases-loop-link : goal.decreases-loop-link
decreases-loop-link g l = into_iter_len l.links
