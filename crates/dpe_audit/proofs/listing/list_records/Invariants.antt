use Rattle.std.proofs.Common.{◌≡◌, ◌-◌, List, length}
use Rattle.dpe_model.specs.History.{Entry}
use Rattle.dpe_audit.specs.Listing.{mode_of, IsListing}
use Rattle.dpe_audit.proofs.listing.list_records.Given as goal

abbrev pub invariant-records : goal.invariant-records
invariant-records g l =
    ((H : List Entry) × (length H ≡ l.number)
    × IsListing (mode_of l.choice) (g.S.Source.left l.initial.records.source) (g.S.Source.left l.records.source) l.initial.records.at l.records.at l.records.stage
    (g.O.Sink.bytes l.initial.out) (g.O.Sink.bytes l.out) H)
    × (g.S.Source.faults l.records.source ≡ g.S.Source.faults l.initial.records.source)
    × (g.O.Sink.faults l.out ≡ g.O.Sink.faults l.initial.out)

abbrev pub decreases-records : goal.decreases-records
decreases-records g l = 65537 - l.number
