use Rattle.dpe_messages.specs.Replies.{response_of}
use Rattle.dpe_grammar.specs.Acts.{act_of}
use Rattle.dpe_script.proofs.Taking.{taken_handles, taken_boxes, taken_all}
use Rattle.dpe_script.proofs.values.Values.take.Goals as goal

pub returns-clause-values : goal.returns-clause-values
returns-clause-values c =
    let old = c.args.self.now in
    let a = c.take_handle.new.self in
    let b = c.take_handle-2.new.self in
    let new = c.take_box.new.self in
    let act = act_of c.args.act.now in
    let r = response_of c.args.reply.now in
    taken_all old a b new act r
    (taken_handles old a b new act r _ _ c.new_handle_of.result c.kept_handle_of.result c.fresh_of.ensures c.new_handle_of.ensures c.keep_of.ensures c.kept_handle_of.ensures
    c.take_handle.ensures.handles c.take_handle-2.ensures.handles c.take_box.ensures.names c.take_box.ensures.handles)
    (taken_boxes old a b new act r _ _ c.sealed_of.ensures c.made_bytes_of.ensures c.take_handle.ensures.names c.take_handle-2.ensures.names c.take_handle.ensures.boxes c.take_handle-2.ensures.boxes
    c.take_box.ensures.boxes)
