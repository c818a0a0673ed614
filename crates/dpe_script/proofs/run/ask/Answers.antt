use Rattle.std.proofs.Common.{◌≤◌, take, length, length-take, arith}
use Rattle.dpe_grammar.specs.Acts.{act_of}
use Rattle.dpe_script.specs.CodeScript.{line_of}
use Rattle.dpe_script.specs.CodeValues.{values_of}
use Rattle.dpe_script.proofs.Asking.{unconcluded_all, unexchanged}
use Rattle.dpe_script.proofs.run.ask.Goals as goal

pub returns-in-Ok-clause-fault : goal.returns-in-Ok-clause-fault
returns-in-Ok-clause-fault g c =
    let few : length (take c.in-Ok.len c.exchange.new.room) ≤ 4096 = omega (arith, length-take c.in-Ok.len c.exchange.new.room) in
    unconcluded_all c.conclude.result (line_of c.args.line.now) (take c.in-Ok.len c.exchange.new.room) (take c.write_act-len.result c.write_act-len.new.room) (values_of c.args.values.now) _
    (g.L.Duplex.told c.args.link.now)
    (g.L.Duplex.told c.exchange.new.link)
    (g.O.Sink.bytes c.args.out.now) (g.O.Sink.bytes c.conclude.new.out) few c.write_act-len.ensures.written c.in-Ok.ensures.sent c.in-Ok.ensures.taken c.conclude.ensures.fault

pub returns-in-Err-clause-fault : goal.returns-in-Err-clause-fault
returns-in-Err-clause-fault g c =
    unexchanged c.in-Err.cause (line_of c.args.line.now) (take c.write_act-len.result c.write_act-len.new.room) (values_of c.args.values.now)
    (g.L.Duplex.told c.args.link.now)
    (g.L.Duplex.told c.exchange.new.link)
    (g.O.Sink.bytes c.args.out.now) c.write_act-len.ensures.written (c.in-Err.ensures.fault (act_of c.args.line.now.act))
