-- What is told of a live context.
use Rattle.dpe_model.specs.declared.plain.LiveRow.{LiveRow}
use Rattle.dpe_model.specs.State.{Row, depth, mode}

abbrev pub live_of : Row → LiveRow
live_of row = record { handle = row.handle; locality = row.locality; depth = depth row; mode = mode row; may_derive = row.may_derive }
