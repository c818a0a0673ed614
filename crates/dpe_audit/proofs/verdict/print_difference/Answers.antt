use Rattle.std.proofs.Common.{◌++◌, subst}
use Rattle.std.proofs.lemmas.Result.{err_from_is_err_and}
use Rattle.std.specs.Prelude.{codes, OnErr}
use Rattle.dpe_text.specs.Writing.{AppendsFront}
use Rattle.dpe_audit.specs.Printed.{named_number, replies_text}
use Rattle.dpe_audit.proofs.Prints.{longer_front, both_front}
use Rattle.dpe_audit.proofs.verdict.print_difference.Goals as goal

pub returns-clause-front : goal.returns-clause-front
returns-clause-front g c =
    let a = g.O.Sink.bytes c.args.out.now in
    let d = g.O.Sink.bytes c.print_replies.new.out in
    let replies = replies_text c.args.recorded.now c.args.computed.now in
    subst (λ n. OnErr c.print_replies.result (AppendsFront a d (named_number (codes "entry ") n ++ replies))) c.from.ensures
    (both_front c.print_replies.result a (g.O.Sink.bytes c.print_number.new.out) d (named_number (codes "entry ") c.from.result) replies c.in_ok-print_number.ensures.ok c.print_replies.ensures.front)

pub returns-in_err-print_number-clause-front : goal.returns-in_err-print_number-clause-front
returns-in_err-print_number-clause-front g c =
    let p = err_from_is_err_and c.from_residual.result c.from_residual.ensures.1 in
    let a = g.O.Sink.bytes c.args.out.now in
    let b = g.O.Sink.bytes c.print_number.new.out in
    let replies = replies_text c.args.recorded.now c.args.computed.now in
    rw p.1 (subst (λ n. AppendsFront a b (named_number (codes "entry ") n ++ replies)) c.from.ensures
    (longer_front a b (named_number (codes "entry ") c.from.result) replies c.in_err-print_number.ensures.front))
