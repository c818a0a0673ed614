use Rattle.std.proofs.Common.{sym, ◌∙◌}
use Rattle.dpe_messages.proofs.PayloadLemmas.{no_outer, other_session, no_inner, by_map}
use Rattle.dpe_messages.proofs.payload.class_of_payload.Goals as goal

pub returns-in_default : goal.returns-in_default
returns-in_default c = no_outer c.args.payload.now (sym c.in_default.ensures)

pub returns-then-session-ne0 : goal.returns-then-session-ne0
returns-then-session-ne0 c = other_session c.args.payload.now c.in-Some.session c.in-Some.bytes.now (sym c.in-Some.ensures) c.if-session-ne0.true

pub returns-in_default-inner : goal.returns-in_default-inner
returns-in_default-inner c = no_inner c.args.payload.now c.in-Some.bytes.now c.in-Some.session (sym c.in-Some.ensures) c.if-session-ne0.false c.in_default-inner.ensures

pub command-requires : goal.command-requires
command-requires c = let read = c.in-Some-inner.ensures in (read.0, read.2)

pub returns : goal.returns
returns c =
    let read = c.in-Some-inner.ensures in
    c.command.ensures read.0 read.2 ∙ by_map c.args.payload.now c.in-Some.bytes.now c.in-Some.session c.in-Some-inner.number read.0 (sym c.in-Some.ensures) c.if-session-ne0.false read.1
