-- What the server prints at its end.
use Rattle.std.specs.Prelude.{ℕ, List, ◌++◌, not, length, codes, count_by, sum_by}
use Rattle.std.specs.Fmt.{decimal}
use Rattle.dpe_model.specs.History.{Entry, is_accepted}
use Rattle.dpe_serve.specs.declared.summary.Totals.{Totals}
use Rattle.dpe_connections.specs.declared.worker.Tally.{Tally}

-- how many entries have a reply of another code than 0
abbrev pub refused_of : List Entry → ℕ
refused_of H = count_by (λ e. not (is_accepted e)) H

-- The ended connections of all workers, the entries of the history, those that were refused, and the connections that ended
-- with Full, and neither so nor with Closed.
abbrev pub totals_of : List Entry → List Tally → Totals
totals_of H tallies = record {
  connections = sum_by (λ t. t.connections) tallies;
  commands = length H;
  refused = refused_of H;
  full = sum_by (λ t. t.full) tallies;
  cut = sum_by (λ t. t.cut) tallies;
}

-- a name, a space, a number and a line feed
abbrev pub line : List ℕ → ℕ → List ℕ
line name number = name ++ codes " " ++ decimal number ++ codes "\n"

abbrev pub summary_text : Totals → List ℕ
summary_text t =
    line (codes "connections") t.connections
    ++ line (codes "commands") t.commands
    ++ line (codes "refused") t.refused
    ++ line (codes "full") t.full
    ++ line (codes "cut") t.cut
