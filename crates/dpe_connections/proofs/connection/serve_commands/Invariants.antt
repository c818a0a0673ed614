use Rattle.std.proofs.Common.{◌≡◌, ◌≤◌, ◌-◌}
use Rattle.dpe_desk.specs.Passes.{Grows, own_name}
use Rattle.dpe_desk.specs.Views.{Sound}
use Rattle.dpe_journal.specs.Shared.{IsLegalFor}
use Rattle.dpe_connections.proofs.Serving.{Serving}
use Rattle.dpe_connections.proofs.connection.serve_commands.Given as goal

-- so many commands were answered, each by one entry that the pass was told of
abbrev pub invariant-loop-len : goal.invariant-loop-len
invariant-loop-len g l =
    let told = g.C.Duplex.told in
    record {
      serving : Serving (own_name l.initial.pass.view) l.connection l.locality l.index l.initial.pass.view l.pass.view
          (told l.initial.conn) (told l.conn) (g.E.Entropy.words l.initial.entropy) (g.E.Entropy.words l.entropy);
      grows : Grows l.initial.pass l.pass;
      names : l.pass.view.names ≡ l.initial.pass.view.names;
      stake : l.pass.view.stake ≡ l.initial.pass.view.stake;
      entropy : g.E.Entropy.faults l.entropy ≡ g.E.Entropy.faults l.initial.entropy;
      told : l.index ≤ l.pass.view.known;
      few : l.index ≤ l.desk.terms.capacity;
      sound : Sound IsLegalFor l.pass.view;
    }

abbrev pub decreases-loop-len : goal.decreases-loop-len
decreases-loop-len g l = 65536 - l.index
