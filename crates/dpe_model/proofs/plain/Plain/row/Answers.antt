use Rattle.std.proofs.Common.{◌<◌, ap, sym, ◌∙◌, length, slice_get, Some, arith}
use Rattle.std.specs.Option.{option_map}
use Rattle.std.proofs.lemmas.List.{length-map}
use Rattle.dpe_model.specs.State.{Machine, IsRow}
use Rattle.dpe_model.specs.Plain.{row_of}
use Rattle.dpe_model.specs.LiveRows.{live_of}
use Rattle.dpe_model.proofs.PlainLemmas.{row_at_place, slice_get-rows_of}
use Rattle.dpe_model.proofs.plain.Plain.row.Goals as goal

pub live_row-requires : goal.live_row-requires
live_row-requires c =
    let rows = c.self.inside.state.rows.items in
    let there : c.args.at < length rows = omega (arith, length-map rows row_of, ap (λ (m : Machine). length m.state.rows) c.self.view_is) in
    (row_at_place (IsRow c.self.inside.state.first c.self.inside.state.next) rows c.args.at c.index.result.now there c.index.ensures c.self.invariant.each).lineage.short

pub returns : goal.returns
returns c =
    let rows = c.self.inside.state.rows.items in
    let there : c.args.at < length rows = omega (arith, length-map rows row_of, ap (λ (m : Machine). length m.state.rows) c.self.view_is) in
    ap (λ (m : Machine). option_map live_of (slice_get m.state.rows c.args.at)) (sym c.self.view_is)
    ∙ (ap (option_map live_of) (slice_get-rows_of rows c.args.at c.index.result.now there c.index.ensures) ∙ ap Some (sym c.live_row.ensures))
