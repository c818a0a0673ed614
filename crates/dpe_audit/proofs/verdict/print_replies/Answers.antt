use Rattle.std.proofs.lemmas.Result.{err_from_is_err_and}
use Rattle.std.specs.Prelude.{codes}
use Rattle.dpe_audit.specs.Printed.{named_bytes}
use Rattle.dpe_audit.proofs.Prints.{longer_front, both_front}
use Rattle.dpe_audit.proofs.verdict.print_replies.Goals as goal

pub returns-clause-front : goal.returns-clause-front
returns-clause-front g c =
    both_front c.print_bytes-2.result (g.O.Sink.bytes c.args.out.now) (g.O.Sink.bytes c.print_bytes.new.out) (g.O.Sink.bytes c.print_bytes-2.new.out)
    (named_bytes (codes "recorded ") c.args.recorded.now) (named_bytes (codes "computed ") c.args.computed.now) c.in_ok-print_bytes.ensures.ok c.print_bytes-2.ensures.front

pub returns-in_err-print_bytes-clause-front : goal.returns-in_err-print_bytes-clause-front
returns-in_err-print_bytes-clause-front g c =
    let p = err_from_is_err_and c.from_residual.result c.from_residual.ensures.1 in
    rw p.1 (longer_front (g.O.Sink.bytes c.args.out.now) (g.O.Sink.bytes c.print_bytes.new.out) (named_bytes (codes "recorded ") c.args.recorded.now) (named_bytes (codes "computed ") c.args.computed.now)
    c.in_err-print_bytes.ensures.front)
