use Rattle.dpe_journal.specs.Stored.{entry_of}
use Rattle.dpe_journal.proofs.PartReads.{answers_record, answers_end, part_is_record, part_is_end}
use Rattle.dpe_journal.proofs.records.answer_behind.Goals as goal

pub store-requires : goal.store-requires
store-requires g c = (part_is_record c.args.records c.args.part.now c.requires.part c.if-part-eq-RECORD.true).1

pub returns-then-part-eq-RECORD-clause-reads : goal.returns-then-part-eq-RECORD-clause-reads
returns-then-part-eq-RECORD-clause-reads g c = λ old consumed.
    let is = part_is_record c.args.records c.args.part.now c.requires.part c.if-part-eq-RECORD.true in
    answers_record old (g.S.Source.left c.args.source.now) c.args.at c.args.records (entry_of c.store.new.entry) c.args.part.now is.0 is.1 c.store.ensures consumed

pub returns-clause-reads : goal.returns-clause-reads
returns-clause-reads g c = λ old consumed.
    answers_end old (g.S.Source.left c.args.source.now) (g.S.Source.left c.end_journal.new.source) c.args.at c.args.records (entry_of c.args.entry.now) c.args.part.now c.end_journal.result
    (part_is_end c.args.records c.args.part.now c.requires.part c.if-part-eq-RECORD.false) consumed c.end_journal.ensures.ends
