use Rattle.dpe_journal.proofs.Parts.{header_words}
use Rattle.dpe_journal.proofs.records.header_fields.Goals as goal

pub returns : goal.returns
returns c = header_words
