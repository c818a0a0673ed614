use Rattle.std.proofs.Common.{refl, arith, ◌∙◌, length}
use Rattle.dpe_journal.specs.Stored.{entry_of}
use Rattle.dpe_audit.proofs.JudgedRecords.{refused_few, judging_none, judging_more, judging_end, judging_differs, judging_stops}
use Rattle.dpe_audit.proofs.judging.judge.Goals as goal

pub records-init : goal.records-init
records-init g c = (judging_none c.args.core.now (g.S.Source.left c.args.records.now.source) c.args.records.now.at c.args.records.now.stage _ c.requires refl refl, refl)

pub read_record-requires : goal.read_record-requires
read_record-requires g c = (length c.records.invariant.0.history, c.records.invariant.0.records.stands)

pub returns-in-End-clause-judges : goal.returns-in-End-clause-judges
returns-in-End-clause-judges g c =
    let j = c.records.invariant.0 in
    let took = c.in-End.ensures.takes (length j.history) j.records.stands in
    judging_end c.args.core.now (g.S.Source.left c.args.records.now.source) (g.S.Source.left c.records.records.source) c.args.records.now.at c.records.records.at c.records.records.stage c.records.core c.records.tally j
    (g.S.Source.left c.read_record.new.records.source) took.0 took.1

pub returns-in-Fault-clause-judges : goal.returns-in-Fault-clause-judges
returns-in-Fault-clause-judges g c =
    let j = c.records.invariant.0 in
    judging_stops c.args.core.now (g.S.Source.left c.args.records.now.source) (g.S.Source.left c.records.records.source) c.args.records.now.at c.records.records.at c.records.records.stage c.records.core c.records.tally j
    (g.S.Source.left c.read_record.new.records.source) c.in-Fault.fault (c.in-Fault.ensures.takes (length j.history) j.records.stands)

pub returns-in-Err-clause-judges : goal.returns-in-Err-clause-judges
returns-in-Err-clause-judges g c =
    let j = c.records.invariant.0 in
    let took = c.in-Record.ensures.takes (length j.history) j.records.stands in
    judging_differs c.args.core.now (g.S.Source.left c.args.records.now.source) (g.S.Source.left c.records.records.source) c.args.records.now.at c.records.records.at c.records.records.stage c.records.core c.records.tally j
    (g.S.Source.left c.read_record.new.records.source) c.read_record.new.records.at c.read_record.new.records.stage (entry_of c.read_record.new.entry) c.reproduce.new.room c.in-Err.len
    took.0 took.1 took.2 (c.in-Record.ensures.at refl) (c.in-Record.ensures.stage (length j.history) j.records.stands refl) c.in-Err.ensures.other

pub counted-tally-requires-clause-entries : goal.counted-tally-requires-clause-entries
counted-tally-requires-clause-entries g c =
    let j = c.records.invariant.0 in
    let took = c.in-Record.ensures.takes (length j.history) j.records.stands in
    omega (arith, took.0, j.counts.entries)

pub counted-tally-requires-clause-refused : goal.counted-tally-requires-clause-refused
counted-tally-requires-clause-refused g c =
    let j = c.records.invariant.0 in
    let took = c.in-Record.ensures.takes (length j.history) j.records.stands in
    omega (arith, took.0, j.counts.entries, refused_few c.records.tally j.history j.counts)

pub records-preserved : goal.records-preserved
records-preserved g c =
    let j = c.records.invariant.0 in
    let took = c.in-Record.ensures.takes (length j.history) j.records.stands in (
      judging_more c.args.core.now (g.S.Source.left c.args.records.now.source) (g.S.Source.left c.records.records.source) c.args.records.now.at c.records.records.at c.records.records.stage c.records.core c.records.tally j
          (g.S.Source.left c.read_record.new.records.source) c.read_record.new.records.at c.read_record.new.records.stage c.reproduce.new.core c.counted-tally.result (entry_of c.read_record.new.entry)
          took.0 took.1 took.2 (c.in-Record.ensures.at refl) (c.in-Record.ensures.stage (length j.history) j.records.stands refl) c.in-Ok.ensures.same c.reproduce.ensures.stands c.counted-tally.ensures,
      c.in-Record.ensures.cause ∙ c.records.invariant.1,
    )
