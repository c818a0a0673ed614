use Rattle.std.proofs.Common.{arith}
use Rattle.dpe_serve.proofs.Settings.{boundary}
use Rattle.dpe_serve.proofs.setting.read_door.Goals as goal

pub range_from-requires : goal.range_from-requires
range_from-requires c =
    λ some.
    boundary c.args.word.now c.as_bytes-bytes.result.now c.as_bytes-bytes.ensures.value c.utf8.word c.if-bytes-ne58.false (omega (arith, c.if-bytes-lt3.false))
