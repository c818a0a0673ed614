use Rattle.std.proofs.Common.{take, drop, sym, take-append-drop}
use Rattle.dpe_journal.specs.Journal.{journal_bytes}
use Rattle.dpe_serve.proofs.closing.write_back.Goals as goal

pub returns-in-Err-clause-part : goal.returns-in-Err-clause-part
returns-in-Err-clause-part g c =
    let text = journal_bytes c.args.book.now.first c.args.book.now.history in
    let count = c.in-Err.field-0.written in
    record {
      after = c.write_to-written.new.sink;
      returned = c.take_journal.ensures.back;
      places = c.take_journal.ensures.places;
      written = (take count text, drop count text, sym (take-append-drop count text), c.in-Err.ensures.fault.1);
      rose = c.in-Err.ensures.cause.failed;
    }
