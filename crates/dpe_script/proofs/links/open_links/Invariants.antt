use Rattle.std.proofs.Common.{◌≡◌, ◌≤◌, length, vec_len}
use Rattle.std.specs.Vec.{vec_capacity}
use Rattle.dpe_script.proofs.Opening.{IsOpening}
use Rattle.dpe_script.proofs.links.open_links.Given as goal

abbrev pub invariant-loop-path : goal.invariant-loop-path
invariant-loop-path g l = record {
  opening :
      IsOpening (λ link. ((g.D.Link.Duplex.told link).read_faults ≡ 0) × ((g.D.Link.Duplex.told link).write_faults ≡ 0)) (g.D.Dock.links l.initial.dock) (g.D.Dock.links l.dock) l.links.items l.path-index;
  count : vec_len l.links ≡ l.path-index;
  room : length l.paths ≤ vec_capacity l.links;
  scripts : g.D.Dock.scripts l.dock ≡ g.D.Dock.scripts l.initial.dock;
}
