use Rattle.std.proofs.Common.{sym, ap}
use Rattle.dpe_io.specs.Memory.{SureGiving}
use Rattle.dpe_io.proofs.Giving.{gives_lent}
use Rattle.dpe_io.proofs.memory.SureSourceSource.read.Goals as goal

pub returns-clause-bytes : goal.returns-clause-bytes
returns-clause-bytes c =
    gives_lent c.args.self.now.left c.self.inside.bytes.items c.deref.result.now c.args.room.now c.give-count.new.room
    c.self.inside.at c.give-count.result c.self.inside.piece (sym (ap (λ (s : SureGiving). s.left) c.self.view_is)) c.self.invariant.1
    c.deref.ensures.value c.give-count.auto.room c.give-count.ensures.count c.give-count.ensures.copied
