-- The entries of a connection that was served are all that its pass has seen of it.
use Rattle.std.proofs.Common.{◌≡◌, ℕ, ◌<◌, List, [], Option, sym, ap, subst, ◌∙◌}
use Rattle.dpe_desk.specs.Entries.{times}
use Rattle.dpe_desk.specs.Passes.{own_name, first_of}
use Rattle.dpe_desk.specs.Views.{Sound}
use Rattle.dpe_model.specs.History.{Entry, entries_of_connection}
use Rattle.dpe_journal.specs.Shared.{IsLegalFor}
use Rattle.dpe_io.specs.Told.{Told}
use Rattle.dpe_connections.specs.Endings.{Ending}
use Rattle.dpe_connections.specs.Passes.{Seat, history_of, entries_on, made_on}
use Rattle.dpe_connections.specs.ServedBy.{ServedBy}
use Rattle.dpe_connections.proofs.Calls.{all_seen}

-- the name is the pass's own
pub record IsNamed (v w : Seat) (name : ℕ) : Type 0 where
  pub name_is : name ≡ own_name v
  pub own : 0 < times name v.names
  pub names : w.names ≡ v.names

module _ (connection capacity locality name : ℕ) (ending : Ending) (v w : Seat) (before after : Told) (words left : Option (List (List ℕ)))
    (x : ServedBy (own_name v) connection capacity locality ending v w before after words left) where
  seen_are : IsNamed v w name → Sound IsLegalFor w → made_on v connection ≡ [] → entries_on w connection ≡ x.entries
  seen_are n sound unused =
      let caller : ℕ = own_name v in
      let held : 0 < times caller w.names = subst (λ (ns : List ℕ). 0 < times caller ns) (sym n.names) (subst (λ (m : ℕ). 0 < times m v.names) n.name_is n.own) in
      ap (λ (m : ℕ). entries_of_connection (history_of w.seen) m connection) (ap first_of n.names)
      ∙ all_seen caller connection w.seen w.made (history_of v.made) x.entries (sound.own caller held) x.made unused x.ours

  -- what holds of the entries that answered the connection holds of those that are seen
  pub of_seen : (P : List Entry → Type 0) → IsNamed v w name → Sound IsLegalFor w → made_on v connection ≡ [] → P x.entries → P (entries_on w connection)
  of_seen P n sound unused h = subst P (sym (seen_are n sound unused)) h
