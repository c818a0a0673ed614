use Rattle.std.proofs.Common.{length, ap, ◌∙◌, arith}
use Rattle.std.proofs.lemmas.List.{length-map}
use Rattle.dpe_handles.proofs.Slots.{place_within, serial_there}
use Rattle.dpe_handles.proofs.table.Table.serial.Goals as goal

pub index-requires : goal.index-requires
index-requires c =
    let within = place_within c.self.inside.rows.items c.self.inside.order.items c.self.inside.live c.self.invariant.0 c.args.self.now c.self.view_is c.args.at c.index-slot.result.now c.requires c.index-slot.ensures in
    let all = ap length c.self.invariant.1 ∙ length-map c.self.inside.rows.items _ in
    omega arith

pub returns : goal.returns
returns c =
    serial_there c.self.inside.rows.items c.self.inside.order.items c.self.inside.live c.self.invariant.0 c.args.self.now c.self.view_is c.args.at c.index-slot.result.now c.requires c.index-slot.ensures
    c.self.inside.serials.items c.index.result.now c.self.invariant.1 c.index.ensures
