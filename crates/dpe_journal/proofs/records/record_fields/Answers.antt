use Rattle.dpe_journal.proofs.Parts.{record_words}
use Rattle.dpe_journal.proofs.records.record_fields.Goals as goal

pub returns : goal.returns
returns c = record_words
