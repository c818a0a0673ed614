use Rattle.std.proofs.Common.{◌≡◌, ℕ, List, take, ap, ◌∙◌, arith}
use Rattle.dpe_inputs.specs.declared.Input.{Input}
use Rattle.dpe_quotes.specs.Quotes.{quote_bytes}
use Rattle.dpe_quotes.specs.Ends.{quote_of}
use Rattle.dpe_quotes.proofs.Ending.{took, make_ends, no_path_ends}
use Rattle.dpe_quotes.proofs.program.run_make.Goals as goal

pub returns-in_default-read_path-clause-ends : goal.returns-in_default-read_path-clause-ends
returns-in_default-read_path-clause-ends g c four =
    no_path_ends c.args.asked.now (g.S.Source.left c.args.source.now) (g.S.Source.left c.fill.new.source) (g.K.Sink.bytes c.args.sink.now) (take c.in-Ok.count c.fill.new.room)
    (took 8225 c.in-Ok.count c.fill.new.room (g.S.Source.left c.args.source.now) (g.S.Source.left c.fill.new.source) (omega arith) c.in-Ok.ensures.bound c.in-Ok.ensures.bytes c.in-Ok.ensures.end)
    c.in_default-read_path.ensures.none

pub returns-clause-ends : goal.returns-clause-ends
returns-clause-ends g c four =
    let bytes = take c.in-Ok.count c.fill.new.room in
    let path = take c.in-Some.depth c.read_path.new.path in
    let is : take c.write_quote-len.result c.write_quote-len.new.room ≡ quote_of c.args.asked.now bytes =
    c.write_quote-len.ensures.written.1
    ∙ ap (λ (n : List ℕ). quote_bytes (record { nonce = n; path = path; tag = c.args.asked.now.tag })) c.bytes.ensures.bytes
    ∙ ap (λ (p : List Input). quote_bytes (record { nonce = c.args.asked.now.nonce; path = p; tag = c.args.asked.now.tag })) c.in-Some.ensures.path in
    make_ends c.args.asked.now (g.S.Source.left c.args.source.now) (g.S.Source.left c.fill.new.source) (g.K.Sink.bytes c.args.sink.now) (g.K.Sink.bytes c.send_status.new.sink)
    bytes (take c.write_quote-len.result c.write_quote-len.new.room) c.send_status.result
    (took 8225 c.in-Ok.count c.fill.new.room (g.S.Source.left c.args.source.now) (g.S.Source.left c.fill.new.source) (omega arith) c.in-Ok.ensures.bound c.in-Ok.ensures.bytes c.in-Ok.ensures.end)
    c.in-Some.ensures.found.0 is c.send_status.ensures.statuses c.send_status.ensures.sent c.send_status.ensures.unsent
