use Rattle.std.proofs.Common.{◌≡◌, sym, ap, ◌∙◌}
use Rattle.dpe_io.specs.Causes.{Other}
use Rattle.dpe_io.specs.Told.{Told}
use Rattle.dpe_script.proofs.Receiving.{no_frame, read_caused}
use Rattle.dpe_script.proofs.run.receive.Goals as goal

pub returns-in-Err-clause-fault : goal.returns-in-Err-clause-fault
returns-in-Err-clause-fault g c = λ act.
    let before = g.met.L.Duplex.told_is c.args.link.now in
    let after = g.met.L.Duplex.told_is c.read_frame.new.source in
    no_frame act (g.L.Duplex.told c.args.link.now) (g.L.Duplex.told c.read_frame.new.source) c.in-Err.fault c.cause_of.result _ _
    (ap (λ (t : Told). t.left) before) (ap (λ (t : Told). t.left) after) c.cause_of.ensures c.in-Err.ensures.reads

pub returns-in-Err-clause-cause : goal.returns-in-Err-clause-cause
returns-in-Err-clause-cause g c =
    let before = g.met.L.Duplex.told_is c.args.link.now in
    let after = g.met.L.Duplex.told_is c.read_frame.new.source in
    let beside = sym (g.met.L.Duplex.beside_source c.read_frame.new.source) ∙ c.read_frame.ensures.beside ∙ g.met.L.Duplex.beside_source c.args.link.now in
    let kept : (g.L.Duplex.told c.read_frame.new.source).write_faults ≡ (g.L.Duplex.told c.args.link.now).write_faults =
    ap (λ (t : Told). t.write_faults) after ∙ ap (λ (o : Other). o.faults) beside ∙ sym (ap (λ (t : Told). t.write_faults) before)
    in
    read_caused (g.L.Duplex.told c.args.link.now) (g.L.Duplex.told c.read_frame.new.source) kept c.in-Err.fault c.cause_of.result _ _
    (ap (λ (t : Told). t.read_faults) before) (ap (λ (t : Told). t.read_faults) after) c.cause_of.ensures c.in-Err.ensures.cause
