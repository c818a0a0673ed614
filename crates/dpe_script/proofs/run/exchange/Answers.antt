use Rattle.std.proofs.Common.{take}
use Rattle.dpe_script.proofs.Asking.{unreceived_all}
use Rattle.dpe_script.proofs.run.exchange.Goals as goal

pub returns-in-Ok-clause-fault : goal.returns-in-Ok-clause-fault
returns-in-Ok-clause-fault g c =
    unreceived_all c.receive.result (take c.args.len c.args.room.now)
    (g.L.Duplex.told c.args.link.now)
    (g.L.Duplex.told c.send.new.link)
    (g.L.Duplex.told c.receive.new.link)
    c.in-Ok.ensures.ok c.send.ensures.left c.receive.ensures.bytes c.receive.ensures.fault
