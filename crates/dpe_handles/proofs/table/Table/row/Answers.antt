use Rattle.std.proofs.Common.{arith}
use Rattle.dpe_handles.proofs.Slots.{place_within, row_there}
use Rattle.dpe_handles.proofs.table.Table.row.Goals as goal

pub index-requires : goal.index-requires
index-requires c = let within = place_within c.self.inside.rows.items c.self.inside.order.items c.self.inside.live c.self.invariant.0 c.args.self.now c.self.view_is c.args.at c.index-slot.result.now c.requires c.index-slot.ensures in omega arith

pub returns : goal.returns
returns c = row_there c.self.inside.rows.items c.self.inside.order.items c.self.inside.live c.self.invariant.0 c.args.self.now c.self.view_is c.args.at c.index-slot.result.now c.requires c.index-slot.ensures c.index.result.now c.index.ensures
