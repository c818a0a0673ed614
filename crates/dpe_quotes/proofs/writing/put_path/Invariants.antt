use Rattle.std.specs.Prelude.{All}
use Rattle.std.proofs.Common.{◌≤◌, ◌+◌, ◌*◌, take}
use Rattle.dpe_cbor.specs.Encoding.{items_encoding}
use Rattle.dpe_cbor.specs.Written.{Appends}
use Rattle.dpe_quotes.specs.Quotes.{input_items, IsInput}
use Rattle.dpe_quotes.proofs.writing.put_path.Given as goal

abbrev pub invariant-loop-input : goal.invariant-loop-input
invariant-loop-input l =
    Appends l.initial.writer l.writer (items_encoding (input_items (take l.input-index l.path)))
    × (l.writer.len ≤ l.initial.writer.len + 266 * l.input-index)
    × All IsInput (take l.input-index l.path)
