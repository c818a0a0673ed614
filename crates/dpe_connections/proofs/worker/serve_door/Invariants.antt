use Rattle.std.proofs.Common.{◌≡◌, ◌≤◌, ◌-◌, false}
use Rattle.dpe_desk.specs.Passes.{Grows, own_name}
use Rattle.dpe_desk.specs.Views.{Sound}
use Rattle.dpe_journal.specs.Shared.{IsLegalFor}
use Rattle.dpe_connections.proofs.Working.{Working}
use Rattle.dpe_connections.proofs.worker.serve_door.Given as goal

-- the connections so far were served
abbrev pub invariant-loop-tally : goal.invariant-loop-tally
invariant-loop-tally g l =
    let told = g.D.Conn.Duplex.told in
    record {
      working : Working told l.desk.terms.capacity (own_name l.initial.pass.view) l.locality l.tally.connections l.pass.view (g.D.Door.lists l.initial.door) (g.D.Door.lists l.door)
          (g.E.Entropy.words l.initial.entropy) (g.E.Entropy.words l.entropy) (g.E.Entropy.faults l.initial.entropy) (g.E.Entropy.faults l.entropy) l.tally.full l.tally.cut;
      grows : Grows l.initial.pass l.pass;
      names : l.pass.view.names ≡ l.initial.pass.view.names;
      stake : l.pass.view.stake ≡ l.initial.pass.view.stake;
      sound : Sound IsLegalFor l.pass.view;
      at_most : l.tally.connections ≤ l.each;
      full : l.tally.full ≤ l.tally.connections;
      cut : l.tally.cut ≤ l.tally.connections;
      open_door : l.tally.door_failed ≡ false;
      faults : g.D.Door.faults l.door ≡ g.D.Door.faults l.initial.door;
      out : g.D.Door.out l.door ≡ g.D.Door.out l.initial.door;
    }

abbrev pub decreases-loop-tally : goal.decreases-loop-tally
decreases-loop-tally g l = l.each - l.tally.connections
