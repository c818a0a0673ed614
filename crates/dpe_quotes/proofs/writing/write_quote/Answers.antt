use Rattle.std.proofs.Common.{◌≡◌, ℕ, length, arith, take, drop, ◌++◌, sym, ap, ◌∙◌}
use Rattle.dpe_quotes.specs.Quotes.{Quote, quote_bytes}
use Rattle.dpe_quotes.proofs.Written.{quote_written}
use Rattle.dpe_quotes.proofs.writing.write_quote.Goals as goal

pub returns-clause-written : goal.returns-clause-written
returns-clause-written c =
    let q : Quote = record { nonce = c.args.nonce.now; path = c.args.path.now; tag = c.args.tag.now } in
    let all = quote_written c.new-writer.result c.put_array.new.writer c.put_string.new.writer c.put_path.new.writer c.put_string-2.new.writer q
    c.put_array.ensures.written c.put_string.ensures.written c.put_path.ensures.written c.put_string-2.ensures.written in
    let size : length q.tag ≡ 64 = omega arith in (
      record { least = c.requires.least; most = c.requires.most; depth = c.requires.depth; inputs = c.put_path.ensures.inputs; tag = size },
      ap (λ (n : ℕ). take n c.put_string-2.new.writer.room.now) c.len.ensures
          ∙ all.written_is
          ∙ ap (λ (n : ℕ). take n c.new-writer.result.room.now ++ quote_bytes q) c.new-writer.ensures.len,
    )

pub returns-clause-behind : goal.returns-clause-behind
returns-clause-behind c =
    let q : Quote = record { nonce = c.args.nonce.now; path = c.args.path.now; tag = c.args.tag.now } in
    let all = quote_written c.new-writer.result c.put_array.new.writer c.put_string.new.writer c.put_path.new.writer c.put_string-2.new.writer q
    c.put_array.ensures.written c.put_string.ensures.written c.put_path.ensures.written c.put_string-2.ensures.written in
    ap (λ (n : ℕ). drop n c.put_string-2.new.writer.room.now) c.len.ensures
    ∙ all.beyond
    ∙ ap (drop c.put_string-2.new.writer.len) c.new-writer.ensures.room
    ∙ ap (λ (n : ℕ). drop n c.args.room.now) (sym c.len.ensures)
