use Rattle.std.proofs.Common.{arith}
use Rattle.dpe_journal.proofs.PartReads.{behind_bytes}
use Rattle.dpe_journal.proofs.records.read_behind.Goals as goal

pub returns-clause-bytes : goal.returns-clause-bytes
returns-clause-bytes g c =
    behind_bytes (g.S.Source.left c.args.source.now) (g.S.Source.left c.read.new.self) c.read.result c.args.room.now c.read.new.room c.args.have _
    (omega (arith, c.told-room)) c.read.ensures.bound c.read.ensures.bytes
