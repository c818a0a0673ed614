use Rattle.std.proofs.Common.{◌≤◌, ℕ, Option, take, length, subst, arith}
use Rattle.std.proofs.lemmas.List.{length-take}
use Rattle.dpe_link.specs.Reading.{TakesFrame, TakesNoFrame}
use Rattle.dpe_link.specs.declared.read.FrameFault.{FrameFault}
use Rattle.dpe_tape.proofs.Items.{no_frame_behind, cut_behind, long_behind, fault_behind, whole_item}
use Rattle.dpe_tape.proofs.tape.read_item.Goals as goal

pub returns-in-Ok-Some-clause-item : goal.returns-in-Ok-Some-clause-item
returns-in-Ok-Some-clause-item g c =
    let took = subst (λ (o : Option ℕ). TakesFrame (g.S.Source.left c.read_front.new.source) (g.S.Source.left c.read_frame.new.source) c.read_frame.new.room o) c.in-Ok-Some.field-0-is c.in-Ok-Some.ensures.reads in
    let short : length (take c.in-Ok-Some.len c.read_frame.new.room) ≤ 4096 = omega (arith, length-take c.in-Ok-Some.len c.read_frame.new.room, took.0) in
    whole_item (g.S.Source.left c.args.source.now) (g.S.Source.left c.read_front.new.source) (g.S.Source.left c.read_frame.new.source) c.read_front.new.front c.copy_from_slice.new.self
    (take c.in-Ok-Some.len c.read_frame.new.room) c.read_front.array_long c.in-Whole.ensures.front.1 c.copy_from_slice.ensures.after short c.in-Whole.ensures.front.0 took.1

pub returns-in-Ok-None-clause-item : goal.returns-in-Ok-None-clause-item
returns-in-Ok-None-clause-item g c =
    let took = subst (λ (o : Option ℕ). TakesFrame (g.S.Source.left c.read_front.new.source) (g.S.Source.left c.read_frame.new.source) c.read_frame.new.room o) c.in-Ok-None.field-0-is c.in-Ok-None.ensures.reads in
    no_frame_behind (g.S.Source.left c.args.source.now) (g.S.Source.left c.read_front.new.source) (g.S.Source.left c.read_frame.new.source) c.read_front.new.front c.read_front.array_long c.in-Whole.ensures.front.0 took.0 took.1

pub returns-in-Err-Cut-clause-item : goal.returns-in-Err-Cut-clause-item
returns-in-Err-Cut-clause-item g c =
    let took = subst (λ (f : FrameFault). TakesNoFrame (g.S.Source.left c.read_front.new.source) (g.S.Source.left c.read_frame.new.source) f) c.in-Err-Cut.field-0-is c.in-Err-Cut.ensures.reads in
    cut_behind (g.S.Source.left c.args.source.now) (g.S.Source.left c.read_front.new.source) (g.S.Source.left c.read_frame.new.source) c.read_front.new.front c.read_front.array_long c.in-Whole.ensures.front.0 took.0 took.1 took.2 took.4

pub returns-in-Err-TooLong-clause-item : goal.returns-in-Err-TooLong-clause-item
returns-in-Err-TooLong-clause-item g c =
    let took = subst (λ (f : FrameFault). TakesNoFrame (g.S.Source.left c.read_front.new.source) (g.S.Source.left c.read_frame.new.source) f) c.in-Err-TooLong.field-0-is c.in-Err-TooLong.ensures.reads in
    long_behind (g.S.Source.left c.args.source.now) (g.S.Source.left c.read_front.new.source) (g.S.Source.left c.read_frame.new.source) c.read_front.new.front c.read_front.array_long c.in-Whole.ensures.front.0
    took.0 c.in-Err-TooLong.field-0-0 took.1 took.2 took.3 took.4

pub returns-in-Err-ReadFault-clause-item : goal.returns-in-Err-ReadFault-clause-item
returns-in-Err-ReadFault-clause-item g c =
    let took = subst (λ (f : FrameFault). TakesNoFrame (g.S.Source.left c.read_front.new.source) (g.S.Source.left c.read_frame.new.source) f) c.in-Err-ReadFault.field-0-is c.in-Err-ReadFault.ensures.reads in
    fault_behind (g.S.Source.left c.args.source.now) (g.S.Source.left c.read_front.new.source) (g.S.Source.left c.read_frame.new.source) c.read_front.new.front c.read_front.array_long c.in-Whole.ensures.front.0 took.0 took.1 took.2
