-- Entries in memory, as entries of a history.
use Rattle.dpe_model.specs.History as history
use Rattle.dpe_journal.specs.Entries.{entry_from}
use Rattle.dpe_journal.specs.declared.entry.Entry.{Entry}

abbrev pub entry_of : Entry → history.Entry
entry_of stored = entry_from stored.caller stored.call stored.reply
