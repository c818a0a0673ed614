-- What the rows of the slow evaluator stand for.
use Rattle.std.specs.Prelude.{List, map}
use Rattle.dpe_model.specs.declared.rows.PlainRow.{PlainRow}
use Rattle.dpe_model.specs.State.{Row}

-- a row without where its lineage lies in memory
abbrev pub row_of : PlainRow → Row
row_of row = record { handle = row.handle; locality = row.locality; may_derive = row.may_derive; default = row.default; lineage = row.lineage.items }

abbrev pub rows_of : List PlainRow → List Row
rows_of rows = map row_of rows
