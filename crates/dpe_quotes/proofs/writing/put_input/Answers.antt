use Rattle.dpe_messages.proofs.Writing.{Appends-none, Appends-then}
use Rattle.dpe_quotes.proofs.writing.put_input.Goals as goal

pub returns-clause-written : goal.returns-clause-written
returns-clause-written c =
    let last = c.put_string-4.new.writer in
    Appends-then _ _ last _ _ c.put_array.ensures.written
    (Appends-then _ _ last _ _ c.put_string.ensures.written
    (Appends-then _ _ last _ _ c.put_string-2.ensures.written
    (Appends-then _ _ last _ _ c.put_string-3.ensures.written
    (Appends-then _ _ last _ _ c.put_mode.ensures.written (Appends-then _ _ last _ _ c.put_string-4.ensures.written (Appends-none last))))))
