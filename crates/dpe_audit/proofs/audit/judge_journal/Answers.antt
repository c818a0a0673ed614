use Rattle.std.proofs.Common.{refl, subst, take}
use Rattle.dpe_model.specs.State.{Machine}
use Rattle.dpe_journal.specs.Stored.{entry_of}
use Rattle.dpe_audit.specs.Audit.{end_of}
use Rattle.dpe_audit.specs.Finding.{whole, faulty, differing}
use Rattle.dpe_audit.specs.Front.{nothing, headed}
use Rattle.dpe_audit.specs.Judging.{AllLegal, LastDiffers, StopsBehind}
use Rattle.dpe_audit.specs.Printed.{fault_text, difference_text}
use Rattle.dpe_audit.specs.Verdicts.{mode_of, verdict_text}
use Rattle.dpe_audit.specs.declared.audit.End.TheVariants as ends
use Rattle.dpe_audit.proofs.Endings.{machine_at, told_ends, find_no_header, view_fault_text, fault_has_status, find_legal, legal_text, find_other, other_text, find_stop}
use Rattle.dpe_audit.proofs.audit.judge_journal.Goals as goal

pub returns-in-Err-clause-ends : goal.returns-in-Err-clause-ends
returns-in-Err-clause-ends g c =
    let mode = mode_of c.args.view in
    let seed = c.args.seed.now in
    let old = g.S.Source.left c.args.records.now.source in
    let new = g.S.Source.left c.read_header.new.records.source in
    told_ends mode seed old new (g.O.Sink.bytes c.args.out.now) (g.O.Sink.bytes c.tell_fault.new.out) (faulty nothing c.in-Err.fault)
    (find_no_header mode seed old new c.args.records.now.at c.in-Err.fault c.requires.at c.in-Err.ensures.fault)
    (end_of c.in-Err.fault) c.tell_fault.result (fault_text c.in-Err.fault) (g.O.Sink.faults c.args.out.now) (g.O.Sink.faults c.tell_fault.new.out)
    (view_fault_text c.args.view seed nothing c.in-Err.fault) (fault_has_status nothing c.in-Err.fault) c.tell_fault.ensures

pub returns-in-Legal-clause-ends : goal.returns-in-Legal-clause-ends
returns-in-Legal-clause-ends g c =
    let seed = c.args.seed.now in
    let old = g.S.Source.left c.args.records.now.source in
    let mid = g.S.Source.left c.read_header.new.records.source in
    let new = g.S.Source.left c.judge.new.records.source in
    let first = c.in-Ok.first in
    let at = c.args.records.now.at in
    let start = c.read_header.new.records.at in
    let core = c.judge.new.core in
    let tally = c.in-Legal.tally in
    let a : AllLegal (machine_at seed first) mid new start core tally = subst (λ (M : Machine). AllLegal M mid new start core tally) c.in-Ok-make.ensures c.in-Legal.ensures.judges in
    told_ends (mode_of c.args.view) seed old new (g.O.Sink.bytes c.args.out.now) (g.O.Sink.bytes c.tell_verdict.new.out) (whole first a.history)
    (find_legal c.args.view seed old mid new first at start c.in-Ok.ensures.range c.in-Ok.ensures.header core tally a)
    ends.Whole c.tell_verdict.result (verdict_text c.args.view core tally) (g.O.Sink.faults c.args.out.now) (g.O.Sink.faults c.tell_verdict.new.out)
    (legal_text c.args.view seed old mid new first at start c.in-Ok.ensures.range c.in-Ok.ensures.header core tally a) refl c.tell_verdict.ensures

pub returns-in-Differs-clause-ends : goal.returns-in-Differs-clause-ends
returns-in-Differs-clause-ends g c =
    let seed = c.args.seed.now in
    let old = g.S.Source.left c.args.records.now.source in
    let mid = g.S.Source.left c.read_header.new.records.source in
    let new = g.S.Source.left c.judge.new.records.source in
    let first = c.in-Ok.first in
    let at = c.args.records.now.at in
    let start = c.read_header.new.records.at in
    let e = entry_of c.judge.new.entry in
    let room = c.judge.new.room in
    let number = c.in-Differs.number in
    let len = c.in-Differs.len in
    let d : LastDiffers (machine_at seed first) mid new start e room number len = subst (λ (M : Machine). LastDiffers M mid new start e room number len) c.in-Ok-make.ensures c.in-Differs.ensures.judges in
    told_ends (mode_of c.args.view) seed old new (g.O.Sink.bytes c.args.out.now) (g.O.Sink.bytes c.tell_difference.new.out) (differing first d.history e)
    (find_other c.args.view seed old mid new first at start c.in-Ok.ensures.range c.in-Ok.ensures.header e room number len d)
    ends.Differs c.tell_difference.result (difference_text number c.bytes.result.now (take len room)) (g.O.Sink.faults c.args.out.now) (g.O.Sink.faults c.tell_difference.new.out)
    (other_text c.args.view seed old mid new first at start c.in-Ok.ensures.range c.in-Ok.ensures.header e room number len c.bytes.result.now (take len room) d c.bytes.ensures.bytes refl)
    refl c.tell_difference.ensures

pub returns-clause-ends : goal.returns-clause-ends
returns-clause-ends g c =
    let seed = c.args.seed.now in
    let old = g.S.Source.left c.args.records.now.source in
    let mid = g.S.Source.left c.read_header.new.records.source in
    let new = g.S.Source.left c.judge.new.records.source in
    let first = c.in-Ok.first in
    let at = c.args.records.now.at in
    let start = c.read_header.new.records.at in
    let fault = c.in-Faulty.fault in
    let s : StopsBehind (machine_at seed first) mid new start fault = subst (λ (M : Machine). StopsBehind M mid new start fault) c.in-Ok-make.ensures c.in-Faulty.ensures.judges in
    told_ends (mode_of c.args.view) seed old new (g.O.Sink.bytes c.args.out.now) (g.O.Sink.bytes c.tell_fault-in-Faulty.new.out) (faulty (headed first s.history) fault)
    (find_stop c.args.view seed old mid new first at start c.in-Ok.ensures.range c.in-Ok.ensures.header fault s c.requires.at c.in-Ok.ensures.at)
    (end_of fault) c.tell_fault-in-Faulty.result (fault_text fault) (g.O.Sink.faults c.args.out.now) (g.O.Sink.faults c.tell_fault-in-Faulty.new.out)
    (view_fault_text c.args.view seed (headed first s.history) fault) (fault_has_status (headed first s.history) fault) c.tell_fault-in-Faulty.ensures
