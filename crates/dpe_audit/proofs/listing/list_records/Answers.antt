use Rattle.std.proofs.Common.{refl, arith, ◌∙◌, [], ◌∷◌, ◌++◌, length, ℕ, sym, subst}
use Rattle.std.proofs.lemmas.List.{length-append}
use Rattle.std.specs.Io.KnownBytes.{Appends}
use Rattle.dpe_text.specs.Writing.{AppendsFront}
use Rattle.dpe_journal.specs.Stored.{entry_of}
use Rattle.dpe_audit.specs.Listing.{mode_of}
use Rattle.dpe_audit.specs.Printed.{entry_line}
use Rattle.dpe_audit.proofs.ListedRecords.{listing_none, no_lines, listing_more, listing_end, listing_stops, listing_cut}
use Rattle.dpe_audit.proofs.listing.list_records.Goals as goal

pub records-init : goal.records-init
records-init g c = (
  ([], refl, listing_none (mode_of c.args.choice) (g.S.Source.left c.args.records.now.source) c.args.records.now.at c.args.records.now.stage (g.O.Sink.bytes c.args.out.now) c.requires (no_lines (mode_of c.args.choice))),
  refl,
  refl,
)

pub read_record-requires : goal.read_record-requires
read_record-requires g c = (length c.records.invariant.0.0, c.records.invariant.0.2.records.stands)

pub returns-in-End-clause-lists : goal.returns-in-End-clause-lists
returns-in-End-clause-lists g c =
    let i = c.records.invariant.0 in
    let took = c.in-End.ensures.takes (length i.0) i.2.records.stands in
    listing_end (mode_of c.args.choice) (g.S.Source.left c.args.records.now.source) (g.S.Source.left c.records.records.source) c.args.records.now.at c.records.records.at c.records.records.stage
    (g.O.Sink.bytes c.args.out.now) (g.O.Sink.bytes c.records.out) i.0 i.2
    (g.S.Source.left c.read_record.new.records.source) took.0 took.1

pub returns-in-Fault-clause-lists : goal.returns-in-Fault-clause-lists
returns-in-Fault-clause-lists g c =
    let i = c.records.invariant.0 in
    listing_stops (mode_of c.args.choice) (g.S.Source.left c.args.records.now.source) (g.S.Source.left c.records.records.source) c.args.records.now.at c.records.records.at c.records.records.stage
    (g.O.Sink.bytes c.args.out.now) (g.O.Sink.bytes c.records.out) i.0 i.2
    (g.S.Source.left c.read_record.new.records.source) c.in-Fault.fault (c.in-Fault.ensures.takes (length i.0) i.2.records.stands)

pub returns-in-Err-clause-lists : goal.returns-in-Err-clause-lists
returns-in-Err-clause-lists g c =
    let i = c.records.invariant.0 in
    let took = c.in-Record.ensures.takes (length i.0) i.2.records.stands in
    listing_cut (mode_of c.args.choice) (g.S.Source.left c.args.records.now.source) (g.S.Source.left c.records.records.source) c.args.records.now.at c.records.records.at c.records.records.stage
    (g.O.Sink.bytes c.args.out.now) (g.O.Sink.bytes c.records.out) i.0 i.2
    (g.S.Source.left c.read_record.new.records.source) c.read_record.new.records.at c.read_record.new.records.stage (g.O.Sink.bytes c.print_entry.new.out) (entry_of c.read_record.new.entry)
    took.0 took.1 took.2 (c.in-Record.ensures.at refl) (c.in-Record.ensures.stage (length i.0) i.2.records.stands refl)
    (subst (λ (n : ℕ). AppendsFront (g.O.Sink.bytes c.records.out) (g.O.Sink.bytes c.print_entry.new.out) (entry_line (mode_of c.args.choice) n (entry_of c.read_record.new.entry))) (sym i.1) c.in-Err.ensures.front)

pub overflow_add-number : goal.overflow_add-number
overflow_add-number g c =
    let i = c.records.invariant.0 in
    let took = c.in-Record.ensures.takes (length i.0) i.2.records.stands in
    omega (arith, took.0, i.1)

pub records-preserved : goal.records-preserved
records-preserved g c =
    let i = c.records.invariant.0 in
    let e = entry_of c.read_record.new.entry in
    let took = c.in-Record.ensures.takes (length i.0) i.2.records.stands in (
      (
        i.0 ++ e ∷ [],
        omega (arith, i.1, length-append i.0 (e ∷ [])),
        listing_more (mode_of c.args.choice) (g.S.Source.left c.args.records.now.source) (g.S.Source.left c.records.records.source) c.args.records.now.at c.records.records.at c.records.records.stage
            (g.O.Sink.bytes c.args.out.now) (g.O.Sink.bytes c.records.out) i.0 i.2
            (g.S.Source.left c.read_record.new.records.source) c.read_record.new.records.at c.read_record.new.records.stage (g.O.Sink.bytes c.print_entry.new.out) e
            took.0 took.1 took.2 (c.in-Record.ensures.at refl) (c.in-Record.ensures.stage (length i.0) i.2.records.stands refl)
            (subst (λ (n : ℕ). Appends (g.O.Sink.bytes c.records.out) (g.O.Sink.bytes c.print_entry.new.out) (entry_line (mode_of c.args.choice) n e)) (sym i.1) c.in-Ok.ensures.ok),
      ),
      c.in-Record.ensures.cause ∙ c.records.invariant.1,
      c.in-Ok.ensures.cause.kept ∙ c.records.invariant.2,
    )
