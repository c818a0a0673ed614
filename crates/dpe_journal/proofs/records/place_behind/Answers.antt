use Rattle.std.proofs.Common.{◌≡◌, ◌+◌, subst, sym}
use Rattle.dpe_journal.specs.Places.{stage_of}
use Rattle.dpe_journal.specs.Reading.{part_of, stage_behind}
use Rattle.dpe_journal.specs.Stages.{behind, MayStand}
use Rattle.dpe_journal.specs.Stored.{entry_of}
use Rattle.dpe_journal.specs.declared.records.Next.{Next}
use Rattle.dpe_journal.proofs.Placing.{place_header, place_entry, place_end, stage_entry}
use Rattle.dpe_journal.proofs.records.place_behind.Goals as goal

pub returns-in-Header-clause-place : goal.returns-in-Header-clause-place
returns-in-Header-clause-place c =
    place_header c.args.place.at c.args.place.records c.args.place.expected c.in-Header._first c.requires.place
    (subst (λ (n : Next). MayStand (stage_of c.args.place.expected c.args.place.records) (part_of n (entry_of c.args.entry.now))) c.in-Header.is c.requires.right)

pub returns-in-Entry-clause-stage : goal.returns-in-Entry-clause-stage
returns-in-Entry-clause-stage c =
    subst (λ (n : Next). behind (c.args.place.records + 1) ≡ stage_behind (stage_of c.args.place.expected c.args.place.records) n) (sym c.in-Entry.is)
    (stage_entry c.args.place.records c.args.place.expected (entry_of c.args.entry.now)
    (subst (λ (n : Next). MayStand (stage_of c.args.place.expected c.args.place.records) (part_of n (entry_of c.args.entry.now))) c.in-Entry.is c.requires.right))

pub returns-in-Entry-clause-place : goal.returns-in-Entry-clause-place
returns-in-Entry-clause-place c =
    place_entry c.args.place.at c.args.place.records c.args.place.expected (entry_of c.args.entry.now) c.record_size.result c.requires.place
    (subst (λ (n : Next). MayStand (stage_of c.args.place.expected c.args.place.records) (part_of n (entry_of c.args.entry.now))) c.in-Entry.is c.requires.right)
    c.record_size.ensures.most

pub returns-in-End-clause-place : goal.returns-in-End-clause-place
returns-in-End-clause-place c =
    place_end c.args.place.at c.args.place.records c.args.place.expected c.in-End._count c.requires.place
    (subst (λ (n : Next). MayStand (stage_of c.args.place.expected c.args.place.records) (part_of n (entry_of c.args.entry.now))) c.in-End.is c.requires.right)
