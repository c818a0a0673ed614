use Rattle.std.proofs.Common.{◌≡◌, Ok, refl, sym, ap, ◌∙◌}
use Rattle.dpe_quotes.specs.Quotes.{Quote}
use Rattle.dpe_quotes.specs.Reading.{quote_at, quote_in}
use Rattle.dpe_quotes.proofs.Folding.{path_length}
use Rattle.dpe_quotes.proofs.Whole.{quote_read}
use Rattle.dpe_quotes.proofs.verifying.read_claims.Goals as goal

pub returns-clause-read : goal.returns-clause-read
unfolding quote_in
returns-clause-read c =
    let (path, read, folded) = c.in_ok-cdi.ensures.folded in
    let q : Quote = record { nonce = c.in_ok-nonce.nonce.now; path = path; tag = c.in_ok-tag.tag.now } in
    let whole : quote_at (record { at = 0; rest = c.args.quote.now }) ≡ Ok q =
    ap quote_at (sym c.new-reader.ensures)
    ∙ quote_read c.new-reader.result c.read_array.new.reader c.read_string.new.reader c.read_array-2.new.reader c.fold_path.new.reader c.read_string-2.new.reader
    c.in_ok-read_array.field-0 c.in_ok-depth.depth c.in_ok-nonce.nonce.now c.in_ok-tag.tag.now path
    (sym c.in_ok-read_array.ensures.read) (sym c.in_ok-nonce.ensures.read) (sym c.in_ok-depth.ensures.read) read (sym c.in_ok-tag.ensures.read)
    (c.in_ok-end.ensures.ok.0 refl) in
    (q, whole, record { nonce = refl; depth = sym (path_length c.in_ok-depth.depth c.read_array-2.new.reader c.fold_path.new.reader path read); cdi = folded; tag = refl })
