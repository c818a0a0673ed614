use Rattle.std.proofs.Common.{subst, sym, Ok}
use Rattle.dpe_journal.specs.Places.{stage_of}
use Rattle.dpe_journal.specs.Reading.{ReadsPart}
use Rattle.dpe_journal.specs.Stages.{IsPart}
use Rattle.dpe_journal.specs.Stored.{entry_of}
use Rattle.dpe_journal.specs.declared.records.Expected.{Expected}
use Rattle.dpe_journal.specs.declared.records.Next.TheVariants.{Header}
use Rattle.dpe_journal.proofs.Parts.{is_header}
use Rattle.dpe_journal.proofs.PartReads.{answers_header, part_filled}
use Rattle.dpe_journal.proofs.records.answer_part.Goals as goal

pub first_serial-requires : goal.first_serial-requires
first_serial-requires g c = is_header c.args.part.now (subst (λ (e : Expected). IsPart (stage_of e c.args.place.records) c.args.part.now) c.in-Header.is c.requires.part)

pub returns-in-Header-clause-reads : goal.returns-in-Header-clause-reads
returns-in-Header-clause-reads g c = λ old consumed.
    subst (λ (e : Expected). ReadsPart old (g.S.Source.left c.args.source.now) (stage_of e c.args.place.records) c.args.place.at (entry_of c.args.entry.now) (Ok (Header c.first_serial.result)))
    (sym c.in-Header.is)
    (answers_header old (g.S.Source.left c.args.source.now) c.args.place.at (entry_of c.args.entry.now) c.args.part.now c.first_serial.result c.first_serial.ensures.header c.first_serial.ensures.range consumed)

pub answer_behind-requires-clause-part : goal.answer_behind-requires-clause-part
answer_behind-requires-clause-part g c = subst (λ (e : Expected). IsPart (stage_of e c.args.place.records) c.args.part.now) c.in-Part.is c.requires.part

pub answer_behind-requires-clause-some : goal.answer_behind-requires-clause-some
answer_behind-requires-clause-some g c =
    part_filled c.args.place.records c.args.part.now (subst (λ (e : Expected). IsPart (stage_of e c.args.place.records) c.args.part.now) c.in-Part.is c.requires.part)

pub returns-in-Part-clause-reads : goal.returns-in-Part-clause-reads
returns-in-Part-clause-reads g c = λ old consumed.
    subst (λ (e : Expected). ReadsPart old (g.S.Source.left c.answer_behind.new.source) (stage_of e c.args.place.records) c.args.place.at (entry_of c.answer_behind.new.entry) c.answer_behind.result)
    (sym c.in-Part.is) (c.answer_behind.ensures.reads old consumed)
