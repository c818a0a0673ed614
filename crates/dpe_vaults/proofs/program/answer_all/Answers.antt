use Rattle.std.proofs.Common.{refl, arith, ◌∙◌}
use Rattle.dpe_vaults.proofs.Running.{running_more, running_done, running_cut, running_malformed, running_overlong, running_unsent, running_start, nothing_taken, read_to_end}
use Rattle.dpe_vaults.proofs.ItemReads.{rose_since}
use Rattle.dpe_vaults.proofs.program.answer_all.Goals as goal

pub loop-turn-init : goal.loop-turn-init
loop-turn-init g c =
    (running_start c.args.entries (g.S.Source.left c.args.source.now) (g.K.Sink.bytes c.args.sink.now) c.args.vault.now c.requires, refl, refl)

pub returns-in-End-clause-ran : goal.returns-in-End-clause-ran
returns-in-End-clause-ran g c =
    running_done c.args.entries (g.S.Source.left c.args.source.now) (g.S.Source.left c.loop-turn.source) (g.K.Sink.bytes c.args.sink.now) (g.K.Sink.bytes c.loop-turn.sink)
    c.loop-turn.vault c.loop-turn._turn c.loop-turn.invariant.0
    (g.S.Source.left c.read_item.new.source) (omega arith) c.in-End.ensures.item.0 c.in-End.ensures.item.1

pub returns-in-NoItem-clause-ran : goal.returns-in-NoItem-clause-ran
returns-in-NoItem-clause-ran g c =
    running_malformed c.args.entries (g.S.Source.left c.args.source.now) (g.S.Source.left c.loop-turn.source) (g.K.Sink.bytes c.args.sink.now) (g.K.Sink.bytes c.loop-turn.sink)
    c.loop-turn.vault c.loop-turn._turn c.loop-turn.invariant.0
    (g.S.Source.left c.read_item.new.source) c.in-NoItem.ensures.item.0 (omega arith) c.in-NoItem.ensures.item.1 c.in-NoItem.ensures.item.2 c.in-NoItem.ensures.item.3

pub returns-in-Fault-clause-ran : goal.returns-in-Fault-clause-ran
returns-in-Fault-clause-ran g c =
    running_cut c.args.entries (g.S.Source.left c.args.source.now) (g.S.Source.left c.loop-turn.source) (g.K.Sink.bytes c.args.sink.now) (g.K.Sink.bytes c.loop-turn.sink)
    c.loop-turn.vault c.loop-turn._turn c.loop-turn.invariant.0
    (g.S.Source.left c.read_item.new.source) c.in-Fault.ensures.item.0 (omega arith) c.in-Fault.ensures.item.1 c.in-Fault.ensures.item.2

pub returns-in-Fault-clause-source_fault : goal.returns-in-Fault-clause-source_fault
returns-in-Fault-clause-source_fault g c =
    λ e. rose_since (g.S.Source.faults c.args.source.now) (g.S.Source.faults c.loop-turn.source) (g.S.Source.faults c.read_item.new.source) c.loop-turn.invariant.1 c.in-Fault.ensures.cause

pub returns-in_default-clause-ran : goal.returns-in_default-clause-ran
returns-in_default-clause-ran g c =
    running_unsent c.args.entries (g.S.Source.left c.args.source.now) (g.S.Source.left c.loop-turn.source) (g.K.Sink.bytes c.args.sink.now) (g.K.Sink.bytes c.loop-turn.sink)
    c.loop-turn.vault c.loop-turn._turn c.loop-turn.invariant.0
    (g.S.Source.left c.read_item.new.source) (g.K.Sink.bytes c.answer.new.sink) c.read_item.new.call (omega arith) c.in-Whole.ensures.item.0 c.in-Whole.ensures.item.1 c.in_default.ensures.front

pub returns-in_default-clause-sink_fault : goal.returns-in_default-clause-sink_fault
returns-in_default-clause-sink_fault g c =
    λ e. rose_since (g.K.Sink.faults c.args.sink.now) (g.K.Sink.faults c.loop-turn.sink) (g.K.Sink.faults c.answer.new.sink) c.loop-turn.invariant.2 c.in_default.ensures.cause.failed

pub loop-turn-preserved : goal.loop-turn-preserved
loop-turn-preserved g c = (
  running_more c.args.entries (g.S.Source.left c.args.source.now) (g.S.Source.left c.loop-turn.source) (g.K.Sink.bytes c.args.sink.now) (g.K.Sink.bytes c.loop-turn.sink)
      c.loop-turn.vault c.loop-turn._turn c.loop-turn.invariant.0
      (g.S.Source.left c.read_item.new.source) (g.K.Sink.bytes c.answer.new.sink) c.answer.new.vault c.read_item.new.call c.in-Whole.ensures.item.0 c.in-Whole.ensures.item.1 c.answer.ensures.vault c.in-Ok.ensures.ok,
  c.in-Whole.ensures.cause ∙ c.loop-turn.invariant.1,
  c.in-Ok.ensures.cause.kept ∙ c.loop-turn.invariant.2,
)

pub returns-in-Fault-read_end-clause-ran : goal.returns-in-Fault-read_end-clause-ran
returns-in-Fault-read_end-clause-ran g c =
    running_cut c.args.entries (g.S.Source.left c.args.source.now) (g.S.Source.left c.loop-turn.source) (g.K.Sink.bytes c.args.sink.now) (g.K.Sink.bytes c.loop-turn.sink)
    c.loop-turn.vault c.loop-turn._turn c.loop-turn.invariant.0
    (g.S.Source.left c.read_end.new.source) c.in-Fault-read_end.ensures.end.0 (omega arith) c.in-Fault-read_end.ensures.end.1 (nothing_taken c.in-Fault-read_end.ensures.end.0 c.in-Fault-read_end.ensures.end.2)

pub returns-in-Fault-read_end-clause-source_fault : goal.returns-in-Fault-read_end-clause-source_fault
returns-in-Fault-read_end-clause-source_fault g c =
    λ e. rose_since (g.S.Source.faults c.args.source.now) (g.S.Source.faults c.loop-turn.source) (g.S.Source.faults c.read_end.new.source) c.loop-turn.invariant.1 c.in-Fault-read_end.ensures.cause

pub returns-in-NoItem-read_end-clause-ran : goal.returns-in-NoItem-read_end-clause-ran
returns-in-NoItem-read_end-clause-ran g c =
    running_overlong c.args.entries (g.S.Source.left c.args.source.now) (g.S.Source.left c.loop-turn.source) (g.K.Sink.bytes c.args.sink.now) (g.K.Sink.bytes c.loop-turn.sink)
    c.loop-turn.vault c.loop-turn._turn c.loop-turn.invariant.0
    (g.S.Source.left c.read_end.new.source) c.in-NoItem-read_end.ensures.end.0 (omega arith) c.in-NoItem-read_end.ensures.end.1 c.in-NoItem-read_end.ensures.end.2

pub returns-in_default-read_end-clause-ran : goal.returns-in_default-read_end-clause-ran
returns-in_default-read_end-clause-ran g c =
    let none = read_to_end (g.S.Source.left c.loop-turn.source) (g.S.Source.left c.read_end.new.source) c.read_end.result c.read_end.ensures.end c.in_default-read_end.not-NoItem c.in_default-read_end.not-Fault in
    running_done c.args.entries (g.S.Source.left c.args.source.now) (g.S.Source.left c.loop-turn.source) (g.K.Sink.bytes c.args.sink.now) (g.K.Sink.bytes c.loop-turn.sink)
    c.loop-turn.vault c.loop-turn._turn c.loop-turn.invariant.0
    (g.S.Source.left c.read_end.new.source) (omega arith) none.0 none.1
