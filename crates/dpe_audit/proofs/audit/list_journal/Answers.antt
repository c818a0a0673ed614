use Rattle.std.proofs.Common.{refl, ◌++◌, []}
use Rattle.dpe_audit.specs.Audit.{end_of}
use Rattle.dpe_audit.specs.Finding.{faulty}
use Rattle.dpe_audit.specs.Front.{nothing, headed}
use Rattle.dpe_audit.specs.Listing.{mode_of}
use Rattle.dpe_audit.specs.Printed.{lines, fault_text}
use Rattle.dpe_audit.proofs.Endings.{told_ends, told_behind, find_no_header, choice_fault_text, fault_has_status, listed_whole, listed_front, find_listed}
use Rattle.dpe_audit.proofs.audit.list_journal.Goals as goal

pub returns-in-Err-clause-ends : goal.returns-in-Err-clause-ends
returns-in-Err-clause-ends g c =
    let mode = mode_of c.args.choice in
    let old = g.S.Source.left c.args.records.now.source in
    let new = g.S.Source.left c.read_header.new.records.source in
    told_ends mode [] old new (g.O.Sink.bytes c.args.out.now) (g.O.Sink.bytes c.tell_fault.new.out) (faulty nothing c.in-Err.fault)
    (find_no_header mode [] old new c.args.records.now.at c.in-Err.fault c.requires.at c.in-Err.ensures.fault)
    (end_of c.in-Err.fault) c.tell_fault.result (fault_text c.in-Err.fault) (g.O.Sink.faults c.args.out.now) (g.O.Sink.faults c.tell_fault.new.out)
    (choice_fault_text c.args.choice c.in-Err.fault) (fault_has_status nothing c.in-Err.fault) c.tell_fault.ensures

pub returns-in-Whole-clause-ends : goal.returns-in-Whole-clause-ends
returns-in-Whole-clause-ends g c =
    listed_whole c.args.choice (g.S.Source.left c.args.records.now.source) (g.S.Source.left c.read_header.new.records.source) (g.S.Source.left c.list_records.new.records.source)
    (g.O.Sink.bytes c.args.out.now) (g.O.Sink.bytes c.list_records.new.out) c.in-Ok._first c.args.records.now.at c.read_header.new.records.at
    c.in-Ok.ensures.range c.in-Ok.ensures.header c.in-Whole.ensures.lists

pub returns-in-WriteFault-clause-ends : goal.returns-in-WriteFault-clause-ends
returns-in-WriteFault-clause-ends g c =
    listed_front c.args.choice (g.S.Source.left c.args.records.now.source) (g.S.Source.left c.read_header.new.records.source) (g.S.Source.left c.list_records.new.records.source)
    (g.O.Sink.bytes c.args.out.now) (g.O.Sink.bytes c.list_records.new.out) c.in-Ok._first c.args.records.now.at c.read_header.new.records.at
    c.in-Ok.ensures.range c.in-Ok.ensures.header c.in-WriteFault.ensures.lists

pub returns-in-Faulty-clause-ends : goal.returns-in-Faulty-clause-ends
returns-in-Faulty-clause-ends g c =
    let mode = mode_of c.args.choice in
    let old = g.S.Source.left c.args.records.now.source in
    let mid = g.S.Source.left c.read_header.new.records.source in
    let new = g.S.Source.left c.list_records.new.records.source in
    let a = g.O.Sink.bytes c.args.out.now in
    let b = g.O.Sink.bytes c.list_records.new.out in
    let d = g.O.Sink.bytes c.tell_fault-in-Faulty.new.out in
    let first = c.in-Ok._first in
    let fault = c.in-Faulty.fault in
    let l = c.in-Faulty.ensures.lists in
    let result = c.tell_fault-in-Faulty.result in
    told_ends mode [] old new a d (faulty (headed first l.history) fault)
    (find_listed c.args.choice old mid new a b first c.args.records.now.at c.read_header.new.records.at c.in-Ok.ensures.range c.in-Ok.ensures.header fault l c.requires.at c.in-Ok.ensures.at)
    (end_of fault) result (lines mode l.history ++ fault_text fault) (g.O.Sink.faults c.args.out.now) (g.O.Sink.faults c.tell_fault-in-Faulty.new.out)
    refl (fault_has_status (headed first l.history) fault)
    (told_behind (end_of fault) result (lines mode l.history) (fault_text fault) a b d (g.O.Sink.faults c.args.out.now) (g.O.Sink.faults c.list_records.new.out) (g.O.Sink.faults c.tell_fault-in-Faulty.new.out)
    c.in-Faulty.ensures.cause.1 l.listed.printed c.tell_fault-in-Faulty.ensures)
