use Rattle.std.proofs.Common.{◌≡◌, List, ℕ, [], length, get_or, sym, ap, ◌∙◌, append-nil, arith}
use Rattle.dpe_journal.specs.Journal.{packet}
use Rattle.dpe_journal.specs.Entries.{Sent, entry_from}
use Rattle.dpe_journal.proofs.Decoding.{record_parts, head_says}
use Rattle.dpe_journal.proofs.Law.{same_fields}
use Rattle.dpe_journal.proofs.decode.store.Goals as goal

pub split_packet-requires : goal.split_packet-requires
split_packet-requires c = let e = c.requires in (e.0.payload, packet e.0.reply, e.1.payload.0, c.split_at.ensures.back ∙ (record_parts c.args.bytes.now e.0 e.1 e.2).1)

pub split_packet-requires-2 : goal.split_packet-requires-2
split_packet-requires-2 c =
    let e = c.requires in
    let parts = c.split_packet.ensures e.0.payload (packet e.0.reply) e.1.payload.0 (c.split_at.ensures.back ∙ (record_parts c.args.bytes.now e.0 e.1 e.2).1) in
    (e.0.reply, [], e.1.reply.0, parts.1 ∙ sym (append-nil (packet e.0.reply)))

pub store-requires-clause-few : goal.store-requires-clause-few
store-requires-clause-few c =
    let e = c.requires in
    let parts = c.split_packet.ensures e.0.payload (packet e.0.reply) e.1.payload.0 (c.split_at.ensures.back ∙ (record_parts c.args.bytes.now e.0 e.1 e.2).1) in
    let few = e.1.payload.0 in
    omega (arith, ap length parts.0, few)

pub store-requires-clause-near : goal.store-requires-clause-near
store-requires-clause-near c =
    let e = c.requires in
    let head = c.split_at.ensures.front ∙ (record_parts c.args.bytes.now e.0 e.1 e.2).0 in
    let near = e.1.locality in
    let is : get_or c.split_at.result.0.now 13 0 ≡ e.0.locality = ap (λ (t : List ℕ). get_or t 13 0) head in
    omega (arith, is, near)

pub set-requires : goal.set-requires
set-requires c =
    let e = c.requires in
    let parts = c.split_packet.ensures e.0.payload (packet e.0.reply) e.1.payload.0 (c.split_at.ensures.back ∙ (record_parts c.args.bytes.now e.0 e.1 e.2).1) in
    let reply = c.split_packet-2.ensures e.0.reply [] e.1.reply.0 (parts.1 ∙ sym (append-nil (packet e.0.reply))) in
    let few = e.1.reply.0 in
    omega (arith, ap length reply.0, few)

pub returns : goal.returns
returns c = λ e ok is.
    let parts = c.split_packet.ensures e.payload (packet e.reply) ok.payload.0 (c.split_at.ensures.back ∙ (record_parts c.args.bytes.now e ok is).1) in
    let reply = c.split_packet-2.ensures e.reply [] ok.reply.0 (parts.1 ∙ sym (append-nil (packet e.reply))) in
    let head = c.split_at.ensures.front ∙ (record_parts c.args.bytes.now e ok is).0 in
    let says = head_says c.split_at.result.0.now e ok head in
    same_fields (entry_from c.number-entry.result c.store.new.self c.set.new.self) e
    (c.number-entry.ensures ∙ says.0)
    (ap (λ (s : Sent). s.connection) c.store.ensures.stored ∙ c.number.ensures ∙ says.1)
    (ap (λ (s : Sent). s.index) c.store.ensures.stored ∙ c.number-2.ensures ∙ says.2)
    (ap (λ (s : Sent). s.locality) c.store.ensures.stored ∙ says.3)
    (ap (λ (s : Sent). s.random) c.store.ensures.stored ∙ c.random.ensures ∙ says.4)
    (ap (λ (s : Sent). s.payload) c.store.ensures.stored ∙ parts.0)
    (c.set.ensures ∙ reply.0)
